-- The modules that a crate declares.
use Rattle.std.specs.Prelude.{◌≡◌, ◌==◌, ◌<◌, ◌+◌, ◌++◌, ℕ, All, Bool, true, false, List, [], ◌∷◌, Option, Some, None, IsSome, is_some, length, option_map, slice_get, take, chars, encode_utf8_all, if◌then◌else◌}
use Rattle.std.specs.Char.{is_ascii}
use Rattle.std.specs.List.{flat_map, list_all, list_any}
use Rattle.std.specs.Str.{is_utf8}
use Rattle.crate_items.specs.Files.{SourceFile, file_at, path_of, text_of}
use Rattle.crate_items.specs.ModDirs as dirs
use Rattle.crate_items.specs.ModDirs.{Dir, File}
use Rattle.crate_items.specs.Sources.{AreSourcesOf, Extends, Source, source_at}
use Rattle.crate_items.specs.declared.modules.declared_module.Declaration.{Declaration}
use Rattle.crate_items.specs.DeclaredModules.{Module, Fault}
use Rattle.crate_items.specs.declared.files.found.Found.{Found}
use Rattle.crate_items.specs.declared.files.found.Found.TheVariants.{Nothing, Declared, Faulty}
use Rattle.crate_items.specs.declared.files.found.There.{There}
use Rattle.crate_items.specs.declared.modules.mod_items.ModItem.{ModItem}
use Rattle.crate_items.specs.declared.modules.ModulesError.{ModulesError}
use Rattle.crate_items.specs.declared.modules.ModulesError.TheVariants.{TooManyModules, OutOfMemory}
use Rattle.dm_base.specs.Names.{Name}
use Rattle.dm_base.specs.declared.ids.FileId.{FileId}
use Rattle.dm_base.specs.declared.edition.Edition.{Edition}
use Rattle.item_tree.specs.Spans.{name_text}
use Rattle.item_tree.specs.Strings.{string_value}
use Rattle.item_tree.specs.declared.cfg.CfgAtom.{CfgAtom}
use Rattle.unicode_normalization.specs.Forms.{nfc}

-- the root of a crate
abbrev pub root_module : List SourceFile → FileId → Module
root_module files id =
    record { declaration = None; file = id; item = None; dir = dirs.of_owner (path_of files id); around = id ∷ [] }

-- how a module is declared by an item in the one of a number
abbrev pub declared_by : ℕ → Module → ModItem → Name → Declaration
declared_by n m x name = record { parent = n; name = name; visibility = x.visibility; file = m.file; item = x.item }

-- an inline module stands in the same files
abbrev pub inline : Module → Declaration → Option (List ℕ) → Module
inline m d path =
    record {
      declaration = Some d;
      file = m.file;
      item = Some d.item;
      dir = dirs.inline m.dir d.name path;
      around = m.around;
    }

-- those of the candidates, the first of which has this number, at whose path there is a file
abbrev pub there_if : ℕ → Option FileId → List There
there_if i None = []
there_if i (Some id) = record { place = i; file = id } ∷ []

abbrev pub there_from : List SourceFile → ℕ → List File → List There
there_from files i [] = []
there_from files i (c ∷ cs) = there_if i (file_at files c.path) ++ there_from files (i + 1) cs

-- the one that is there, if no other is
abbrev pub only : List There → Option There
only ts = if length ts == 1 then slice_get ts 0 else None

-- a module may not stand in its own file again
abbrev pub stands_in : Module → FileId → Bool
stands_in m id = list_any (λ (f : FileId). f.0 == id.0) m.around

abbrev pub outline : Module → Declaration → FileId → File → Module
outline m d id c =
    record { declaration = Some d; file = id; item = None; dir = dirs.of_file c d.name; around = m.around ++ id ∷ [] }

abbrev pub faulty : Declaration → List File → Option FileId → Found
faulty d cs within = Faulty (record { declaration = d; candidates = cs; within = within })

-- the folder that a `#![path]` goes from which the file of a module begins with: that of the declaration. A `#[path]` before
-- that goes before it
abbrev pub base_of : Module → Bool → Option Dir
base_of m has_path = if has_path then None else Some m.dir

abbrev pub at_candidate : Module → Bool → Declaration → List File → FileId → Option File → Found
at_candidate m has_path d cs id None = faulty d cs None
at_candidate m has_path d cs id (Some c) =
    if stands_in m id then faulty d cs (Some id)
    else Declared (outline m d id c) (base_of m has_path)

-- the file of a module is the one that is there among the candidates. None is an error, and so are two
abbrev pub by_file : Module → Bool → Declaration → List File → Option There → Found
by_file m has_path d cs None = faulty d cs None
by_file m has_path d cs (Some t) = at_candidate m has_path d cs t.file (slice_get cs t.place)

abbrev pub in_file : List SourceFile → Module → Bool → Declaration → List File → Found
in_file files m has_path d cs = by_file m has_path d cs (only (there_from files 0 cs))

abbrev pub by_kind : List SourceFile → Module → Bool → Declaration → Option (List ℕ) → Found
by_kind files m is_outline d path =
    if is_outline then in_file files m (is_some path) d (dirs.candidates m.dir d.name path)
    else Declared (inline m d path) None

-- a name is its text in Normalization Form C; a text of ASCII is in that form
abbrev pub normalized : List ℕ → Name
normalized text = if list_all is_ascii text then text else encode_utf8_all (nfc (chars text))

-- a name that is no UTF-8 is none, and what has no name is no module
abbrev pub as_name : List ℕ → Option Name
as_name bytes = if is_utf8 bytes then Some (normalized bytes) else None

-- a `#[path]` is what its string stands for
abbrev pub found_as : List SourceFile → ℕ → Module → ModItem → Option Name → Found
found_as files n m x None = Nothing
found_as files n m x (Some name) =
    by_kind files m x.is_outline (declared_by n m x name) (option_map (string_value (text_of files m.file)) x.path)

-- what an item leads to that stands in the module of a number
abbrev pub found_of : List SourceFile → ℕ → Module → ModItem → Found
found_of files n m x = found_as files n m x (as_name (name_text (text_of files m.file) x.name))

-- a module of the same file, inline or the file's own
abbrev pub is_same : Option ℕ → Option ℕ → Bool
is_same None None = true
is_same (Some a) (Some b) = a == b
is_same _ _ = false

-- what an item leads to, if it stands in the module of a number
abbrev pub found_if : List SourceFile → ℕ → Module → ModItem → List Found
found_if files n m x = if is_same x.home m.item then found_of files n m x ∷ [] else []

-- what those of some items lead to
abbrev pub founds_from : List SourceFile → ℕ → Module → List ModItem → List Found
founds_from files n m [] = []
founds_from files n m (x ∷ xs) = found_if files n m x ++ founds_from files n m xs

abbrev pub mods_known : Option Source → List ModItem
mods_known None = []
mods_known (Some s) = s.mods

-- what the declarations in the module of a number lead to, in order
abbrev pub founds : List (Option Source) → List SourceFile → ℕ → Module → List Found
founds table files n m = founds_from files n m (mods_known (source_at table m.file))

abbrev pub founds_at : List (Option Source) → List SourceFile → ℕ → Option Module → List Found
founds_at table files n None = []
founds_at table files n (Some m) = founds table files n m

-- there is a module, unless its file begins with a `cfg` that does not hold
abbrev pub is_enabled : Option Source → Bool
is_enabled None = true
is_enabled (Some s) = s.is_enabled

abbrev pub is_left : List (Option Source) → Module → Option ℕ → Bool
is_left table m None = is_enabled (source_at table m.file)
is_left table m (Some n) = true

-- the `#![path]` that a file begins with
abbrev pub path_within : Option Source → Option (List ℕ)
path_within None = None
path_within (Some s) = s.path

-- the children of a module whose file begins with one have their files beside what it names
abbrev pub beside : Module → Option Dir → Option (List ℕ) → Module
beside m (Some base) (Some path) = record m { dir = dirs.of_owner (dirs.attr_file base path) }
beside m _ _ = m

abbrev pub placed : List (Option Source) → Module → Option Dir → Module
placed table m base = beside m base (path_within (source_at table m.file))

abbrev pub module_of : List (Option Source) → Found → List Module
module_of table Nothing = []
module_of table (Declared m base) = if is_left table m m.item then placed table m base ∷ [] else []
module_of table (Faulty f) = []

abbrev pub fault_of : Found → List Fault
fault_of Nothing = []
fault_of (Declared m base) = []
fault_of (Faulty f) = f ∷ []

abbrev pub modules_of : List (Option Source) → List Found → List Module
modules_of table fs = flat_map (module_of table) fs

abbrev pub faults_of : List Found → List Fault
faults_of fs = flat_map fault_of fs

-- what there is of each of some modules, the first of which has this number
abbrev pub of_each : {X : Type 0} → (ℕ → Module → List X) → ℕ → List Module → List X
of_each f n [] = []
of_each f n (m ∷ ms) = f n m ++ of_each f (n + 1) ms

-- the modules that some modules declare
abbrev pub declared_in : List (Option Source) → List SourceFile → ℕ → List Module → List Module
declared_in table files n ms = of_each (λ k m. modules_of table (founds table files k m)) n ms

-- and those of their declarations that lead to no module
abbrev pub faults_in : List (Option Source) → List SourceFile → ℕ → List Module → List Fault
faults_in table files n ms = of_each (λ k m. faults_of (founds table files k m)) n ms

-- a module whose file was read
abbrev pub IsRead : List (Option Source) → Module → Type 0
IsRead table m = IsSome (source_at table m.file)

-- a module whose file is in the table
abbrev pub IsKnown : List SourceFile → Found → Type 0
IsKnown files Nothing = Unit {0}
IsKnown files (Declared m base) = m.file.0 < length files
IsKnown files (Faulty f) = Unit {0}

-- what a crate reads and declares
pub record Listing : Type 0 where
  pub sources : List (Option Source)
  pub modules : List Module
  pub faults : List Fault

-- a list of modules whose files are read, each as the crate reads it
pub record IsListing (edition : Edition) (options : List CfgAtom) (files : List SourceFile) (l : Listing) : Type 0 where
  pub len : length l.sources ≡ length files
  pub right : AreSourcesOf edition options files l.sources
  pub read : All (IsRead l.sources) l.modules

-- what was added: modules, whatever else is read, and faults
pub record Adds (old new : Listing) (ms : List (Option Source) → List Module) (fs : List Fault) : Type 0 where
  pub kept : Extends old.sources new.sources
  pub modules : (table : List (Option Source)) → Extends new.sources table → new.modules ≡ old.modules ++ ms table
  pub faults : new.faults ≡ old.faults ++ fs

-- the list of a crate whose modules up to a number have their declarations in it
pub record IsListedTo (edition : Edition) (options : List CfgAtom) (files : List SourceFile) (root : FileId) (n : ℕ)
    (l : Listing) : Type 0 where
  pub listing : IsListing edition options files l
  pub modules : (table : List (Option Source)) → Extends l.sources table →
      l.modules ≡ root_module files root ∷ declared_in table files 0 (take n l.modules)
  pub faults : (table : List (Option Source)) → Extends l.sources table →
      l.faults ≡ faults_in table files 0 (take n l.modules)

-- there are more modules than so many: a list has them in which the declarations of the first so many are
abbrev pub AreMore : Edition → List CfgAtom → List SourceFile → FileId → ℕ → Type 0
AreMore edition options files root limit =
    (l : Listing) × IsListedTo edition options files root limit l × (limit < length l.modules)

-- why the modules were not listed: there are more, or memory ran out
abbrev pub IsRefusal : Edition → List CfgAtom → List SourceFile → FileId → ℕ → ModulesError → Type 0
IsRefusal edition options files root limit TooManyModules = AreMore edition options files root limit
IsRefusal edition options files root limit OutOfMemory = Unit {0}
