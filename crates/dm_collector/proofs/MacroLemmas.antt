-- What one of two options has: in which order they are asked, and what holds of it.
use Rattle.std.proofs.Common.{◌≡◌, ◌∙◌, Bool, cond, false, is_none, is_some, List, [], ◌∷◌, not, Option, None, Some, ap, arith, refl, sym, true}
use Rattle.std.proofs.lemmas.Bool.{false≢true}
use Rattle.std.proofs.lemmas.List.Elements.{All-contains, All-contains_itself, All-weaker}
use Rattle.std.specs.List.{All, Contains}
use Rattle.std.specs.Option.{IfSome, option_map_or, option_or}
use Rattle.dm_base.specs.declared.per_ns.Item.{Item}
use Rattle.dm_base.specs.declared.per_ns.PerNs.{PerNs}
use Rattle.dm_maps.specs.Holding.{def_holds, macro_holds, res_holds}
use Rattle.dm_base.specs.Names.{Name}
use Rattle.dm_base.specs.declared.imports.ImportOrExternCrate.{ImportOrExternCrate}
use Rattle.dm_base.specs.declared.item_ids.MacroId.{MacroId}
use Rattle.dm_base.specs.declared.item_ids.ModuleDefId.TheVariants as def
use Rattle.dm_maps.specs.Known.{KnowsAll}
use Rattle.dm_maps.specs.KnownLaws.{macros-known}
use Rattle.dm_maps.specs.World.{World}
use Rattle.dm_collector.specs.MacroPreludes.{HasMacros, is_public, missing_macro, public_in}
use Rattle.dm_collector.specs.MacroUses.{Uses}

pub or-assoc : {A : Type 0} (x y z : Option A) → option_or (option_or x y) z ≡ option_or x (option_or y z)
or-assoc None y z = refl
or-assoc (Some a) y z = refl

pub or-none : {A : Type 0} (x : Option A) → option_or x None ≡ x
or-none None = refl
or-none (Some a) = refl

pub or-held : {A : Type 0} (P : A → Type 0) (x y : Option A) → IfSome x P → IfSome y P → IfSome (option_or x y) P
or-held P None y h k = k
or-held P (Some a) y h k = h

-- what holds of all of a list holds of all that stand in it
pub all-among : {A : Type 0} (P : A → Type 0) (xs ys : List A) → ((x : A) → Contains xs x → Contains ys x) → All P ys → All P xs
all-among P xs ys among all = All-weaker (Contains xs) P (λ x has. All-contains P ys x all (among x has)) xs (All-contains_itself xs)

-- a test whether there is nothing
pub none-test : {A : Type 0} (o : Option A) (b : Bool) → not b ≡ is_some o → is_none o ≡ b
none-test None true e = refl
none-test None false e = absurd (false≢true (sym e))
none-test (Some x) true e = absurd (false≢true e)
none-test (Some x) false e = refl

pub none-there : {A : Type 0} (o : Option A) → is_none o ≡ true → o ≡ None
none-there None e = refl
none-there (Some x) e = absurd (false≢true e)

-- names under each of which a macro was missing, and none is
none-used : (w : World) (u : Uses) (ns : List Name) → All (λ n. is_none (missing_macro w u n) ≡ false) ns → All (λ n. missing_macro w u n ≡ None) ns → ns ≡ []
none-used w u [] some none = refl
none-used w u (n ∷ ns) some none =
    absurd (false≢true (sym (some 0 n (omega arith)) ∙ ap is_none (none 0 n (omega arith))))

pub used-by-none : (w : World) (u : Uses) (ns : List Name) → All (λ n. is_none (missing_macro w u n) ≡ false) ns → All (λ n. missing_macro w u n ≡ None) ns → (ns ≡ [] → HasMacros w u) → HasMacros w u
used-by-none w u ns some none has = has (none-used w u ns some none)

-- a macro that all see is the world's, where what is bound is
pub public-known : (w : World) (x : PerNs) → KnowsAll w (res_holds x) → IfSome (public_in x.macros) (λ m. KnowsAll w (def_holds (def.MacroId m)))
public-known w x k = of x.macros (macros-known w x k)
  where
    by : (i : Item MacroId ImportOrExternCrate) → KnowsAll w (macro_holds i) → (b : Bool) → IfSome (cond b (Some i.def) None) (λ m. KnowsAll w (def_holds (def.MacroId m)))
    by i h true = (h.0, tt)
    by i h false = tt

    of : (o : Option (Item MacroId ImportOrExternCrate)) → KnowsAll w (option_map_or macro_holds o []) → IfSome (public_in o) (λ m. KnowsAll w (def_holds (def.MacroId m)))
    of None h = tt
    of (Some i) h = by i h (is_public i.vis)
