-- Lists of modules grow by what each module declares.
use Rattle.std.proofs.Common.{◌≡◌, ◌+◌, ◌++◌, ◌∙◌, ◌<◌, ◌≤◌, ℕ, zero, suc, Bool, true, false, cond, List, [], ◌∷◌, length, take, refl, ap, sym, subst, arith, append_assoc, append-nil}
use Rattle.std.specs.Prelude.{All, IsSome, Option, Some, None, slice_get, unwrap_or}
use Rattle.std.specs.List.{flat_map}
use Rattle.std.proofs.lemmas.List.{take-append-le, take_all}
use Rattle.std.proofs.lemmas.List.Elements.{All-append, All-cons, All-nil}
use Rattle.std.proofs.lemmas.Option.{slice_get_within, unwrap_or-slice_get}
use Rattle.crate_items.specs.DeclaredModules.{Module}
use Rattle.crate_items.specs.Files.{SourceFile}
use Rattle.crate_items.specs.ModDirs.{Dir}
use Rattle.crate_items.specs.Modules.{Adds, IsListedTo, IsListing, IsRead, Listing, beside, declared_in, fault_of, faults_in, faults_of, founds, founds_at, founds_from, is_enabled, is_left, module_of, modules_of, mods_known, of_each, path_within, placed, root_module}
use Rattle.crate_items.specs.Sources.{AreSourcesOf, Extends, Source, source_at}
use Rattle.crate_items.specs.declared.files.found.Found.{Found}
use Rattle.crate_items.specs.declared.files.found.Found.TheVariants.{Declared}
use Rattle.dm_base.specs.declared.ids.FileId.{FileId}
use Rattle.dm_base.specs.declared.edition.Edition.{Edition}
use Rattle.item_tree.specs.declared.cfg.CfgAtom.{CfgAtom}

none_more : (k : ℕ) → k ≡ k + 0
none_more k = omega arith

one_further : (k n : ℕ) → (k + 1) + n ≡ k + suc n
one_further k n = omega arith

successor : (n : ℕ) → suc n ≡ n + 1
successor n = omega arith

-- what there is of one module more
pub of_each-more : {X : Type 0} (f : ℕ → Module → List X) (n k : ℕ) (ms : List Module) (m : Module) → slice_get ms k ≡ Some m
    → of_each f n (take (suc k) ms) ≡ of_each f n (take k ms) ++ f (n + k) m
of_each-more f n k [] m h = absurd (let f : ⊥ = cc in f)
of_each-more f n zero (x ∷ xs) m h =
    let same : x ≡ m = cc in
    append-nil (f n x) ∙ ap (f n) same ∙ ap (λ i. f i m) (none_more n)
of_each-more f n (suc k) (x ∷ xs) m h =
    ap (λ l. f n x ++ l) (of_each-more f (n + 1) k xs m h ∙ ap (λ i. of_each f (n + 1) (take k xs) ++ f i m) (one_further n k))
    ∙ sym (append_assoc (f n x) (of_each f (n + 1) (take k xs)) (f (n + suc k) m))

none_before : (k : ℕ) → 0 + k ≡ k
none_before k = omega arith

of_each-next : {X : Type 0} (f : ℕ → Module → List X) (k : ℕ) (ms : List Module) (m : Module) → slice_get ms k ≡ Some m
    → of_each f 0 (take (suc k) ms) ≡ of_each f 0 (take k ms) ++ f k m
of_each-next f k ms m h = of_each-more f 0 k ms m h ∙ ap (λ i. of_each f 0 (take k ms) ++ f i m) (none_before k)

-- what holds of each holds of one
pub at_number : {X : Type 0} (P : X → Type 0) (xs : List X) (k : ℕ) (x : X) → slice_get xs k ≡ Some x → All P xs → P x
at_number P xs k x e h = subst P (sym (unwrap_or-slice_get xs k x) ∙ ap (λ o. unwrap_or o x) e) (h k x (slice_get_within xs k x e))

-- what was read of a file is the same later
pub same_source : (old table : List (Option Source)) (id : FileId) → Extends old table → IsSome (source_at old id) → source_at old id ≡ source_at table id
same_source old table id more h = by (source_at old id) refl h
  where
    by : (o : Option Source) → source_at old id ≡ o → IsSome o → source_at old id ≡ source_at table id
    by None e h = cc
    by (Some s) e h = e ∙ sym (more id s e)

pub read_more : (old table : List (Option Source)) (ms : List Module) → Extends old table → All (IsRead old) ms → All (IsRead table) ms
read_more old table ms more h k d l =
    let read = h k d l in
    subst IsSome (same_source old table _ more read) read

-- nothing was added
pub adds_nothing : (l : Listing) → Adds l l (λ table. []) []
adds_nothing l = record {
  kept = λ id s e. e;
  modules = λ table more. sym (append-nil l.modules);
  faults = sym (append-nil l.faults);
}

-- one thing more was added
pub adds_more : (old now new : Listing) (fs : List Found) (f : Found) → Adds old now (λ table. modules_of table fs) (faults_of fs) → Adds now new (λ table. module_of table f) (fault_of f)
    → Adds old new (λ table. modules_of table (fs ++ f ∷ [])) (faults_of (fs ++ f ∷ []))
adds_more old now new fs f a b = record {
  kept = λ id s e. b.kept id s (a.kept id s e);
  modules = λ table more.
      b.modules table more
      ∙ ap (λ l. l ++ module_of table f) (a.modules table (λ id s e. more id s (b.kept id s e)))
      ∙ append_assoc old.modules (modules_of table fs) (module_of table f)
      ∙ ap (λ l. old.modules ++ l) (sym (one_more (module_of table) fs f));
  faults =
      b.faults
      ∙ ap (λ l. l ++ fault_of f) a.faults
      ∙ append_assoc old.faults (faults_of fs) (fault_of f)
      ∙ ap (λ l. old.faults ++ l) (sym (one_more fault_of fs f));
}
  where
    one_more : {X : Type 0} (g : Found → List X) (fs : List Found) (f : Found) → flat_map g (fs ++ f ∷ []) ≡ flat_map g fs ++ g f
    one_more g [] f = append-nil (g f)
    one_more g (x ∷ xs) f = ap (λ l. g x ++ l) (one_more g xs f) ∙ sym (append_assoc (g x) (flat_map g xs) (g f))

-- the root is listed, and no module has its declarations in the list
pub first_listed : (edition : Edition) (options : List CfgAtom) (files : List SourceFile) (root : FileId) (l : Listing) → IsListing edition options files l → l.modules ≡ root_module files root ∷ [] → l.faults ≡ []
    → IsListedTo edition options files root 0 l
first_listed edition options files root l listing modules faults =
    record { listing = listing; modules = λ table more. modules; faults = λ table more. faults }

-- the declarations of one module more are in the list
pub next_listed : (edition : Edition) (options : List CfgAtom) (files : List SourceFile) (root : FileId) (n : ℕ) (old new : Listing) (m : Module) → slice_get old.modules n ≡ Some m
    → IsListedTo edition options files root n old → IsListing edition options files new
    → Adds old new (λ table. modules_of table (founds old.sources files n m)) (faults_of (founds old.sources files n m)) → IsListedTo edition options files root (n + 1) new
next_listed edition options files root n old new m at l listing a = record {
  listing = listing;
  modules = λ table more.
      let earlier : Extends old.sources table = λ id s e. more id s (a.kept id s e) in
      a.modules table more
      ∙ ap (λ fs. old.modules ++ modules_of table fs) (same table earlier)
      ∙ ap (λ ms. ms ++ modules_of table (founds table files n m)) (l.modules table earlier)
      ∙ ap (λ ms. root_module files root ∷ ms) (sym (of_each-next (λ k x. modules_of table (founds table files k x)) n old.modules m at))
      ∙ ap (λ ms. root_module files root ∷ declared_in table files 0 ms) (front table more);
  faults = λ table more.
      let earlier : Extends old.sources table = λ id s e. more id s (a.kept id s e) in
      a.faults
      ∙ ap (λ fs. old.faults ++ faults_of fs) (same table earlier)
      ∙ ap (λ fs. fs ++ faults_of (founds table files n m)) (l.faults table earlier)
      ∙ sym (of_each-next (λ k x. faults_of (founds table files k x)) n old.modules m at)
      ∙ ap (faults_in table files 0) (front table more);
}
  where
    same : (table : List (Option Source)) → Extends old.sources table → founds old.sources files n m ≡ founds table files n m
    same table more = ap (λ s. founds_from files n m (mods_known s)) (same_source old.sources table m.file more (at_number (IsRead old.sources) old.modules n m at l.listing.read))

    front : (table : List (Option Source)) → Extends new.sources table → take (suc n) old.modules ≡ take (n + 1) new.modules
    front table more =
        let inside = slice_get_within old.modules n m at in
        let fits : n + 1 ≤ length old.modules = omega arith in
        ap (λ i. take i old.modules) (successor n)
        ∙ sym (ap (take (n + 1)) (a.modules table more) ∙ take-append-le (n + 1) old.modules (modules_of table (founds old.sources files n m)) fits)

-- each module up to the last has a place
inside : {X : Type 0} (xs : List X) (k : ℕ) → k < length xs → (x : X) × (slice_get xs k ≡ Some x)
inside [] k h = absurd (let f : ⊥ = omega arith in f)
inside (x ∷ xs) zero h = (x, refl)
inside (x ∷ xs) (suc k) h =
    let within : k < length xs = omega arith in
    inside xs k within

-- the same by the place of the module
pub listed_further : (edition : Edition) (options : List CfgAtom) (files : List SourceFile) (root : FileId) (n : ℕ) (old new : Listing) (fs : List Found) → n < length old.modules
    → fs ≡ founds_at old.sources files n (slice_get old.modules n) → IsListedTo edition options files root n old → IsListing edition options files new
    → Adds old new (λ table. modules_of table fs) (faults_of fs) → IsListedTo edition options files root (n + 1) new
listed_further edition options files root n old new fs there found l listing a =
    let m = (inside old.modules n there).0 in
    let at : slice_get old.modules n ≡ Some m = (inside old.modules n there).1 in
    let same : fs ≡ founds old.sources files n m = found ∙ ap (founds_at old.sources files n) at in
    next_listed edition options files root n old new m at l listing (subst (λ (gs : List Found). Adds old new (λ table. modules_of table gs) (faults_of gs)) same a)

-- what is a list stays one where only faults are added
pub same_listing : (edition : Edition) (options : List CfgAtom) (files : List SourceFile) (old new : Listing) → old.sources ≡ new.sources → old.modules ≡ new.modules → IsListing edition options files old
    → IsListing edition options files new
same_listing edition options files old new sources modules l = record {
  len = subst (λ (s : List (Option Source)). length s ≡ length files) sources l.len;
  right = subst (λ (s : List (Option Source)). AreSourcesOf edition options files s) sources l.right;
  read = subst (λ (s : List (Option Source)). All (IsRead s) new.modules) sources (subst (λ (ms : List Module). All (IsRead old.sources) ms) modules l.read);
}

-- and where a module is added whose file was read
pub listing_more : (edition : Edition) (options : List CfgAtom) (files : List SourceFile) (old new : Listing) (table : List (Option Source)) (m : Module) (base : Option Dir) → IsListing edition options files old
    → length table ≡ length files → AreSourcesOf edition options files table → Extends old.sources table → IsSome (source_at table m.file) → new.sources ≡ table
    → new.modules ≡ old.modules ++ module_of table (Declared m base) → IsListing edition options files new
listing_more edition options files old new table m base l len right more read sources modules = record {
  len = ap length sources ∙ len;
  right = subst (λ (s : List (Option Source)). AreSourcesOf edition options files s) (sym sources) right;
  read = subst (λ (s : List (Option Source)). All (IsRead s) new.modules) (sym sources) (subst (λ (ms : List Module). All (IsRead table) ms) (sym modules) all);
}
  where
    at_place : (b : Option Dir) (p : Option (List ℕ)) → IsRead table (beside m b p)
    at_place None None = read
    at_place None (Some p) = read
    at_place (Some b) None = read
    at_place (Some b) (Some p) = read

    one : (b : Bool) → All (IsRead table) (cond b (placed table m base ∷ []) [])
    one true = All-cons (IsRead table) (placed table m base) [] (at_place base (path_within (source_at table m.file))) (All-nil (IsRead table))
    one false = All-nil (IsRead table)

    all : All (IsRead table) (old.modules ++ module_of table (Declared m base))
    all = All-append (IsRead table) old.modules (module_of table (Declared m base)) (read_more old.sources table old.modules more l.read) (one (is_left table m m.item))

-- a module is left or not, and has its place, whatever else is read
pub same_left : (old table : List (Option Source)) (m : Module) (base : Option Dir) → Extends old table → IsSome (source_at old m.file)
    → module_of old (Declared m base) ≡ module_of table (Declared m base)
same_left old table m base more read =
    ap (λ b. cond b (placed old m base ∷ []) []) (by m.item)
    ∙ ap (λ (s : Option Source). cond (is_left table m m.item) (beside m base (path_within s) ∷ []) []) (same_source old table m.file more read)
  where
    by : (item : Option ℕ) → is_left old m item ≡ is_left table m item
    by None = ap is_enabled (same_source old table m.file more read)
    by (Some n) = refl

-- at the end all declarations are in the list
pub all_listed : (edition : Edition) (options : List CfgAtom) (files : List SourceFile) (root : FileId) (n : ℕ) (l : Listing) → IsListedTo edition options files root n l → length l.modules ≤ n
    → (l.modules ≡ root_module files root ∷ declared_in l.sources files 0 l.modules) × (l.faults ≡ faults_in l.sources files 0 l.modules)
all_listed edition options files root n l h all =
    let whole : take n l.modules ≡ l.modules = take_all n l.modules all in
    let same : Extends l.sources l.sources = λ id s e. e in
    (h.modules l.sources same ∙ ap (λ ms. root_module files root ∷ declared_in l.sources files 0 ms) whole, h.faults l.sources same ∙ ap (faults_in l.sources files 0) whole)
