-- What was short on the way is short of all that was asked for.
use Rattle.std.proofs.Common.{◌≡◌, ◌≤◌, ◌<◌, ◌||◌, ◌+◌, ◌∙◌, ℕ, suc, zero, Bool, true, false, cond, not, List, [], ◌∷◌, ◌++◌, Option, None, Some, Result, Ok, Err, drop, length, length-append, nat_lt, ap, arith, refl, subst, sym}
use Rattle.std.proofs.lemmas.List.{append_assoc}
use Rattle.std.proofs.lemmas.Bool.{lt-ltb, ltb-true, ltb-false}
use Rattle.std.specs.List.{flat_map, list_any}
use Rattle.std.specs.Option.{option_map, option_map_or}
use Rattle.std.specs.Prelude.{IfErr, IsTrue}
use Rattle.std.specs.Result.{IsErrAnd}
use Rattle.crate_tables.proofs.MoreCrates.{more-externs, more-items, more-macros, more-modules, more-procedural, more-uses, more-variants}
use Rattle.crate_tables.proofs.MoreSteps.{IsMore, full-past, many-items, many-macros, many-modules, many-on, many-short, many-uses, more-crate, more-further, more-same, or-left, or-on, or-right, past-full, past-on, short-memory, short-on}
use Rattle.crate_items.specs.CrateGraphs.{Data, Graph}
use Rattle.crate_items.specs.DeclaredModules.{Module}
use Rattle.crate_items.specs.declared.files.dependency.Dependency.{Dependency}
use Rattle.crate_items.specs.declared.items.declared_item.DeclaredItem.{DeclaredItem}
use Rattle.crate_items.specs.declared.items.declared_variant.DeclaredVariant.{DeclaredVariant}
use Rattle.crate_items.specs.declared.modules.declared_module.Declaration.{Declaration}
use Rattle.crate_tables.specs.BlockLists.{blocks_of}
use Rattle.crate_tables.specs.CrateDefs.{with_declared, with_items, with_variant_of, with_variants}
use Rattle.crate_tables.specs.CrateMacros.{WithMacros, with_macro_item, with_macros}
use Rattle.crate_tables.specs.CrateMaps.{Filled, is_far_new, with_modules, with_one}
use Rattle.crate_tables.specs.CrateRoots.{with_roots}
use Rattle.crate_tables.specs.CrateTables.{Table}
use Rattle.crate_tables.specs.CrateUses.{Textual, with_use_item, with_uses_from}
use Rattle.crate_tables.specs.declared.item_place.BlockPlace.{BlockPlace}
use Rattle.crate_tables.specs.ExternCrates.{Linked, with_extern_crate, with_extern_crates}
use Rattle.crate_tables.specs.NewModules.{CrateView, declared_so, in_edition, new_module}
use Rattle.crate_tables.specs.Numbers.{has_far, has_too_many, is_far, is_past, is_shortage}
use Rattle.crate_tables.specs.ProceduralMacros.{with_procedural_macro, with_procedural_macros}
use Rattle.dm_base.specs.declared.edition.Edition.{Edition}
use Rattle.dm_base.specs.declared.ids.EnumId.{EnumId}
use Rattle.dm_base.specs.declared.ids.ModuleId.{ModuleId}
use Rattle.dm_base.specs.declared.item_ids.ItemKind.{ItemKind}
use Rattle.dm_base.specs.declared.macros.MacroLoc.{MacroLoc}
use Rattle.dm_base.specs.declared.source.EditionedFileId.{EditionedFileId}
use Rattle.dm_maps.specs.Build.{with_crate, with_item}
use Rattle.dm_maps.specs.BuildItems.{with_macro, with_use}
use Rattle.dm_maps.specs.Faults.{Answers, is_full, item_fault, lacks_module, new_crate_fault}
use Rattle.dm_maps.specs.ItemFaults.{macro_fault, use_fault}
use Rattle.dm_maps.specs.Known.{knows}
use Rattle.dm_maps.specs.World.{World}
use Rattle.dm_maps.specs.declared.build_fault.BuildFault.{BuildFault}
use Rattle.dm_maps.specs.declared.build_fault.BuildFault.TheVariants.{NoSuchModule, OutOfMemory, OutOfNumbers}
use Rattle.dm_maps.specs.declared.check.held.HeldId.TheVariants as held

-- an error that is of one kind is of a wider one
pub err-on : {A E : Type 0} (P Q : E → Type 0) → ((f : E) → P f → Q f) → (r : Result A E) → IfErr r P → IfErr r Q
err-on P Q on (Ok x) h = tt
err-on P Q on (Err f) h = on f h

-- what a `?` passes on
pub passed : {A E : Type 0} (r : Result A E) (f : E) (P : E → Type 0) → IsErrAnd r (λ e. e ≡ f) → P f → IfErr r P
passed (Ok x) f P same is = tt
passed (Err e) f P same is = subst P (sym same) is

-- what is short of one world is short of one that has more
pub later-short : (u v t : World) → IsMore u v → v ≡ t → (f : BuildFault) → is_shortage (has_too_many u) f ≡ true → is_shortage (has_too_many t) f ≡ true
later-short u v t more same f h = subst (λ (w : World). is_shortage (has_too_many w) f ≡ true) same (many-short u v more f h)

-- ---- Calls of a builder

-- in a module that is there, one more of what is full is too many
by-room : (A : Type 0) (w : World) (m : ModuleId) (full many : Bool) (o : Option BuildFault) (f : BuildFault) → IsTrue (knows w (held.Module m))
    → o ≡ cond (lacks_module w m) (Some NoSuchModule) (cond full (Some OutOfNumbers) None) → (full ≡ true → many ≡ true) → Answers {A = A} o (Err f) → is_shortage many f ≡ true
by-room A w m full many o f known e past h = by (lacks_module w m) full o (lacking (knows w (held.Module m)) known) e past h
  where
    lacking : (b : Bool) → IsTrue b → not b ≡ false
    lacking true k = refl
    lacking false k = cc

    by : (a c : Bool) (o : Option BuildFault) → a ≡ false → o ≡ cond a (Some NoSuchModule) (cond c (Some OutOfNumbers) None) → (c ≡ true → many ≡ true) → Answers {A = A} o (Err f) → is_shortage many f ≡ true
    by true c o l e past h = cc
    by false true None l e past h = cc
    by false true (Some g) l e past h = let same : f ≡ OutOfNumbers = cc in ap (is_shortage many) same ∙ past refl
    by false false None l e past h = short-memory many f h
    by false false (Some g) l e past h = cc

pub item-short : (A : Type 0) (w : World) (k : ItemKind) (m : ModuleId) (f : BuildFault) → IsTrue (knows w (held.Module m)) → Answers {A = A} (item_fault w m) (Err f) → is_shortage (has_too_many (with_item w k m)) f ≡ true
item-short A w k m f known h =
    by-room A w m (is_full w.items) (has_too_many (with_item w k m)) (item_fault w m) f known refl (λ full. many-items (with_item w k m) (full-past w.items (k, m) full)) h

pub use-short : (A : Type 0) (w : World) (m : ModuleId) (f : BuildFault) → IsTrue (knows w (held.Module m)) → Answers {A = A} (use_fault w m) (Err f) → is_shortage (has_too_many (with_use w m)) f ≡ true
use-short A w m f known h =
    by-room A w m (is_full w.uses) (has_too_many (with_use w m)) (use_fault w m) f known refl (λ full. many-uses (with_use w m) (full-past w.uses m full)) h

pub macro-short : (A : Type 0) (w : World) (m : ModuleId) (l : MacroLoc) (f : BuildFault) → IsTrue (knows w (held.Module m)) → Answers {A = A} (macro_fault w m) (Err f) → is_shortage (has_too_many (with_macro w m l)) f ≡ true
macro-short A w m l f known h =
    by-room A w m (is_full w.macros) (has_too_many (with_macro w m l)) (macro_fault w m) f known refl (λ full. many-macros (with_macro w m l) (full-past w.macros (m, l) full)) h

pub crate-short : (A : Type 0) (w : World) (e : Edition) (x : EditionedFileId) (f : BuildFault) → Answers {A = A} (new_crate_fault w) (Err f) → is_shortage (has_too_many (with_crate w e x)) f ≡ true
crate-short A w e x f h = by (is_full w.places) (new_crate_fault w) refl refl h
  where
    v : World
    v = with_crate w e x

    by : (c : Bool) (o : Option BuildFault) → is_full w.places ≡ c → o ≡ cond c (Some OutOfNumbers) None → Answers {A = A} o (Err f) → is_shortage (has_too_many v) f ≡ true
    by true None is e h = cc
    by true (Some g) is e h = let same : f ≡ OutOfNumbers = cc in ap (is_shortage (has_too_many v)) same ∙ many-modules v (full-past w.places _ is)
    by false None is e h = short-memory (has_too_many v) f h
    by false (Some g) is e h = cc

-- ---- Loops

any-drop : {X : Type 0} (p : X → Bool) (n : ℕ) (xs : List X) → list_any p (drop n xs) ≡ true → list_any p xs ≡ true
any-drop p zero [] h = h
any-drop p zero (x ∷ xs) h = h
any-drop p (suc n) [] h = h
any-drop p (suc n) (x ∷ xs) h = or-right (p x) (list_any p xs) (any-drop p n xs h)

any-next : {X : Type 0} (p : X → Bool) (n : ℕ) (xs : List X) (x : X) (rest : List X) → drop n xs ≡ x ∷ rest → p x ≡ true → list_any p xs ≡ true
any-next {X} p n xs x rest e h = any-drop p n xs (subst (λ (l : List X). list_any p l ≡ true) (sym e) (or-left (p x) (list_any p rest) h))

far-same : (c : CrateView) (m : Module) → is_far_new (new_module c m) ≡ true → is_far m ≡ true
far-same c m h = by m.declaration h
  where
    by : (o : Option Declaration) → is_far_new (option_map (declared_so c m) o) ≡ true → option_map_or (λ (d : Declaration). is_past d.item) o false ≡ true
    by None g = g
    by (Some d) g = g

pub modules-short : (c : CrateView) (s t : Filled) (n : ℕ) (m : Module) (rest : List Module) (f : BuildFault)
    → drop n (drop 1 c.list.modules) ≡ m ∷ rest → with_modules c s (drop n (drop 1 c.list.modules)) ≡ t
    → is_shortage (has_too_many (with_one c s (new_module c m)).world || is_far_new (new_module c m)) f ≡ true → is_shortage (has_too_many t.world || has_far c.list) f ≡ true
modules-short c s t n m rest f first later h =
    let next = with_one c s (new_module c m) in
    let same : with_modules c next rest ≡ t = sym (ap (with_modules c s) first) ∙ later in
    short-on (has_too_many next.world || is_far_new (new_module c m)) (has_too_many t.world || has_far c.list)
    (or-on (has_too_many next.world) (is_far_new (new_module c m)) (has_too_many t.world) (has_far c.list)
    (λ many. subst (λ (x : Filled). has_too_many x.world ≡ true) same (many-on next.world (with_modules c next rest).world (more-modules c next rest) many))
    (λ far. any-drop is_far 1 c.list.modules (any-next is_far n (drop 1 c.list.modules) m rest first (far-same c m far))))
    f h

items-append : (c : CrateView) (s : Filled) (xs ys : List DeclaredItem) → with_items c s (xs ++ ys) ≡ with_items c (with_items c s xs) ys
items-append c s [] ys = refl
items-append c s (x ∷ xs) ys = items-append c (with_declared c s x) xs ys

pub items-short : (c : CrateView) (start now : Filled) (front rest behind all : List DeclaredItem) (x : DeclaredItem) (f : BuildFault)
    → now ≡ with_items c start front → front ++ rest ≡ all → rest ≡ x ∷ behind
    → is_shortage (has_too_many (with_declared c now x).world) f ≡ true → is_shortage (has_too_many (with_items c start all).world) f ≡ true
items-short c start now front rest behind all x f filled split first h =
    let next = with_declared c now x in
    let same : with_items c next behind ≡ with_items c start all =
    ap (λ s. with_items c s (x ∷ behind)) filled ∙ sym (items-append c start front (x ∷ behind)) ∙ ap (λ r. with_items c start (front ++ r)) (sym first) ∙ ap (with_items c start) split in
    later-short next.world (with_items c next behind).world (with_items c start all).world (more-items c next behind) (ap (λ (s : Filled). s.world) same) f h

variants-append : (w : World) (e : EnumId) (xs ys : List DeclaredVariant) → with_variants w e (xs ++ ys) ≡ with_variants (with_variants w e xs) e ys
variants-append w e [] ys = refl
variants-append w e (x ∷ xs) ys = variants-append (with_variant_of w e x) e xs ys

pub variants-short : (e : EnumId) (start now : World) (front rest behind all : List DeclaredVariant) (x : DeclaredVariant) (f : BuildFault)
    → now ≡ with_variants start e front → front ++ rest ≡ all → rest ≡ x ∷ behind
    → is_shortage (has_too_many (with_variant_of now e x)) f ≡ true → is_shortage (has_too_many (with_variants start e all)) f ≡ true
variants-short e start now front rest behind all x f filled split first h =
    let next = with_variant_of now e x in
    let same : with_variants next e behind ≡ with_variants start e all =
    ap (λ w. with_variants w e (x ∷ behind)) filled ∙ sym (variants-append start e front (x ∷ behind)) ∙ ap (λ r. with_variants start e (front ++ r)) (sym first) ∙ ap (with_variants start e) split in
    later-short next (with_variants next e behind) (with_variants start e all) (more-variants next e behind) same f h

pub uses-short : (c : CrateView) (u : Textual) (s t : Filled) (n : ℕ) (xs rest : List DeclaredItem) (x : DeclaredItem) (f : BuildFault)
    → xs ≡ x ∷ rest → with_uses_from c u s n xs ≡ t
    → is_shortage (has_too_many (with_use_item c u s n x).world) f ≡ true → is_shortage (has_too_many t.world) f ≡ true
uses-short c u s t n xs rest x f first later h =
    let next = with_use_item c u s n x in
    later-short next.world (with_uses_from c u next (n + 1) rest).world t.world (more-uses c u next (n + 1) rest) (ap (λ (z : Filled). z.world) (sym (ap (with_uses_from c u s n) first) ∙ later)) f h

pub macros-short : (c : CrateView) (s t : WithMacros) (xs rest : List DeclaredItem) (x : DeclaredItem) (f : BuildFault)
    → xs ≡ x ∷ rest → with_macros c s xs ≡ t
    → is_shortage (has_too_many (with_macro_item c s x).world) f ≡ true → is_shortage (has_too_many t.world) f ≡ true
macros-short c s t xs rest x f first later h =
    let next = with_macro_item c s x in
    later-short next.world (with_macros c next rest).world t.world (more-macros c next rest) (ap (λ (z : WithMacros). z.world) (sym (ap (with_macros c s) first) ∙ later)) f h

pub procedural-short : (c : CrateView) (s t : Filled) (xs rest : List DeclaredItem) (x : DeclaredItem) (f : BuildFault)
    → xs ≡ x ∷ rest → with_procedural_macros c s xs ≡ t
    → is_shortage (has_too_many (with_procedural_macro c s x).world) f ≡ true → is_shortage (has_too_many t.world) f ≡ true
procedural-short c s t xs rest x f first later h =
    let next = with_procedural_macro c s x in
    later-short next.world (with_procedural_macros c next rest).world t.world (more-procedural c next rest) (ap (λ (z : Filled). z.world) (sym (ap (with_procedural_macros c s) first) ∙ later)) f h

pub externs-short : (c : CrateView) (ds : List Dependency) (s t : Linked) (xs rest : List DeclaredItem) (x : DeclaredItem) (f : BuildFault)
    → xs ≡ x ∷ rest → with_extern_crates c ds s xs ≡ t
    → is_shortage (is_past (length (with_extern_crate c ds s x).rows)) f ≡ true → is_shortage (is_past (length t.rows)) f ≡ true
externs-short c ds s t xs rest x f first later h =
    let next = with_extern_crate c ds s x in
    let more = more-externs c ds next rest in
    let same : with_extern_crates c ds next rest ≡ t = sym (ap (with_extern_crates c ds s) first) ∙ later in
    short-on (is_past (length next.rows)) (is_past (length t.rows))
    (λ past. subst (λ (z : Linked). is_past (length z.rows) ≡ true) same (past-on (length next.rows) (length (with_extern_crates c ds next rest).rows) more.rows past)) f h

roots-more : (w : World) (g : Graph) → IsMore w (with_roots w g)
roots-more w [] = more-same w
roots-more w (d ∷ ds) =
    let v = with_crate w d.edition (in_edition d.edition d.root_file_id) in
    more-further w v (with_roots v ds) (more-crate w d.edition (in_edition d.edition d.root_file_id)) (roots-more v ds)

pub roots-short : (w t : World) (xs rest : Graph) (d : Data) (f : BuildFault) → xs ≡ d ∷ rest → with_roots w xs ≡ t
    → is_shortage (has_too_many (with_crate w d.edition (in_edition d.edition d.root_file_id))) f ≡ true → is_shortage (has_too_many t) f ≡ true
roots-short w t xs rest d f first later h =
    let v = with_crate w d.edition (in_edition d.edition d.root_file_id) in
    later-short v (with_roots v rest) t (roots-more v rest) (sym (ap (with_roots w) first) ∙ later) f h

-- ---- Blocks

-- of so many blocks, some are numbered, and the others are left
pub blocks-left : (n k total : ℕ) (ts : List Table) (t : Table) (bs : List BlockPlace) → drop n ts ≡ t ∷ drop (n + 1) ts → bs ≡ t.blocks → k + length (blocks_of (drop n ts)) ≡ total
    → (k + length bs) + length (blocks_of (drop (n + 1) ts)) ≡ total
blocks-left n k total ts t bs first same left =
    let one : length (blocks_of (drop n ts)) ≡ length (t.blocks ++ blocks_of (drop (n + 1) ts)) = ap (λ (l : List Table). length (blocks_of l)) first in
    let count : length bs ≡ length t.blocks = ap (λ (l : List BlockPlace). length l) same in
    omega (arith, length-append t.blocks (blocks_of (drop (n + 1) ts)), one, count, left)

pub blocks-short : (n k total : ℕ) (ts : List Table) (t : Table) (bs : List BlockPlace) (f : BuildFault) → drop n ts ≡ t ∷ drop (n + 1) ts → bs ≡ t.blocks → k + length (blocks_of (drop n ts)) ≡ total
    → is_shortage (is_past (k + length bs)) f ≡ true → is_shortage (is_past total) f ≡ true
blocks-short n k total ts t bs f first same left h =
    let all = blocks-left n k total ts t bs first same left in
    short-on (is_past (k + length bs)) (is_past total) (past-on (k + length bs) total (omega (arith, all))) f h

pub one-taken : {X : Type 0} (front rest behind all : List X) (x : X) → front ++ rest ≡ all → rest ≡ x ∷ behind → (front ++ x ∷ []) ++ behind ≡ all
one-taken front rest behind all x h e = append_assoc front (x ∷ []) behind ∙ ap (λ r. front ++ r) (sym e) ∙ h
