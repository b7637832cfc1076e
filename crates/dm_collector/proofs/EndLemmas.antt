-- Each name that is declared means in the end what it is declared as.
use Rattle.std.proofs.Common.{◌≡◌, ◌∙◌, ◌++◌, ℕ, ap, cond, refl, subst, sym, true, false, Bool, Option, None, Some, List, [], ◌∷◌}
use Rattle.std.specs.List.{cons_option}
use Rattle.std.proofs.lemmas.List.{append-nil, append_assoc}
use Rattle.std.proofs.lemmas.List.Elements.{filter_map-append}
use Rattle.crate_tables.specs.DeclaredWorlds as declared
use Rattle.crate_tables.specs.DeclaredWorlds.{AreShown, declared_push, extern_crate_by, extern_crate_in, extern_crate_of}
use Rattle.crate_tables.specs.declared.declared_name.DeclaredName.{DeclaredName}
use Rattle.dm_base.specs.declared.ids.Crate.{Crate}
use Rattle.dm_base.specs.declared.ids.ModuleId.{ModuleId}
use Rattle.dm_base.specs.declared.imports.ImportOrExternCrate.{ImportOrExternCrate}
use Rattle.dm_base.specs.declared.imports.ImportOrExternCrate.TheVariants as wide
use Rattle.dm_base.specs.declared.item_ids.ModuleDefId.{ModuleDefId}
use Rattle.dm_base.specs.declared.per_ns.Item.{Item}
use Rattle.dm_base.specs.Tree.{same_module}
use Rattle.dm_imports.specs.Bound.{Binding, Maps, ShowMore, import_of, push_by, push_to, pushes_to}
use Rattle.dm_imports.specs.declared.meaning.Source.{Source}
use Rattle.dm_imports.specs.declared.meaning.Source.TheVariants as source
use Rattle.dm_maps.specs.World.{scope_of}
use Rattle.dm_scope.specs.Shows.{ScopePush, Shows}
use Rattle.dm_collector.specs.Binding.{AreCratesBound}
use Rattle.dm_collector.specs.Collecting.{IsImported}
use Rattle.dm_collector.specs.Declaring.{AreDeclaring, AreImporting, KeepDeclared, is_declaring, is_importing}
use Rattle.dm_collector.specs.Steps.{Given, MapsOf}
use Rattle.dm_collector.proofs.StayLemmas.{scope-keeps}

-- ---- Pushes of declarations, and those of imports

importing : (s : Source) → is_importing (import_of s) ≡ true
importing source.Declaration = refl
importing (source.Import i) = refl
importing (source.Glob g) = refl

are-importing : (k : ModuleId) (bs : List Binding) → AreImporting (pushes_to k bs)
are-importing k [] = tt
are-importing k (b ∷ bs) = by (same_module b.home k) (are-importing k bs)
  where
    by : (c : Bool) → AreImporting (pushes_to k bs) → AreImporting (cons_option (cond c (Some (push_by b)) None) (pushes_to k bs))
    by true h = (importing b.meaning.source, h)
    by false h = h

declaring-in : (o : Option ImportOrExternCrate) → is_declaring (extern_crate_in o) ≡ true
declaring-in None = refl
declaring-in (Some (wide.ExternCrate k)) = refl
declaring-in (Some (wide.Import i)) = refl
declaring-in (Some (wide.Glob g)) = refl

declaring-by : (o : Option (Item ModuleDefId ImportOrExternCrate)) → is_declaring (extern_crate_by o) ≡ true
declaring-by None = refl
declaring-by (Some i) = declaring-in i.import

are-declaring : (k : ModuleId) (ds : List DeclaredName) → AreDeclaring (declared.pushes_to k ds)
are-declaring k [] = tt
are-declaring k (d ∷ ds) = by (same_module d.home k) (are-declaring k ds)
  where
    by : (c : Bool) → AreDeclaring (declared.pushes_to k ds) → AreDeclaring (cons_option (cond c (Some (declared_push d)) None) (declared.pushes_to k ds))
    by true h = (declaring-by d.items.types, h)
    by false h = h

-- ---- What modules show when all crates are bound

shows-bound : (x : Given) (ks : List Crate) (s t : Maps) → AreCratesBound x ks s t → (bs : List Binding) × ShowMore bs s t
shows-bound x [] s t h = ([], λ k ps shown. subst (λ (m : Maps). Shows (scope_of m.world k) m.flags k (ps ++ [])) (sym h) (subst (Shows (scope_of s.world k) s.flags k) (sym (append-nil ps)) shown))
shows-bound x (c ∷ ks) s t h =
    let one = h.1 in
    let rest = shows-bound x ks h.0 t h.2 in
    let bs = one.names.bindings in (
      bs ++ rest.0,
      λ k ps shown.
          subst (Shows (scope_of t.world k) t.flags k)
          (append_assoc ps (pushes_to k bs) (pushes_to k rest.0) ∙ ap (λ (qs : List ScopePush). ps ++ qs) (sym (filter_map-append (push_to k) bs rest.0)))
          (rest.1 k (ps ++ pushes_to k bs) (one.names.shown k ps (one.shown s.flags k ps shown))),
    )

pub keep-declared : (d : MapsOf) (n : ℕ) (x : Given) (start last : Maps) (ds : List DeclaredName) → AreShown start.world start.flags ds → IsImported d n x start last → KeepDeclared last.world ds
keep-declared d n x start last ds shown imported m name =
    let more = shows-bound x imported.order start imported.bound imported.names in
    scope-keeps (scope_of last.world m) imported.bound.flags m (declared.pushes_to m ds) (pushes_to m more.0)
    (imported.shown imported.bound.flags m (declared.pushes_to m ds ++ pushes_to m more.0) (more.1 m (declared.pushes_to m ds) (shown m)))
    (are-declaring m ds) (are-importing m more.0) name
