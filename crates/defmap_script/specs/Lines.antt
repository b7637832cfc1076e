-- Grammar of the lines of a script: their words, and the commands that they are parsed to.
use Rattle.std.specs.Prelude.{ℕ, ◌==◌, not, List, [], ◌∷◌, Option, Some, None, Result, Ok, Err, length, filter, codes, nat_eq, if◌then◌else◌}
use Rattle.std.specs.List.{slice_split, starts_with}
use Rattle.std.specs.Str.{is_utf8}
use Rattle.std.specs.Option.{option_map, option_map_or, option_and_then}
use Rattle.dm_base.specs.Names.{Name, find_name}
use Rattle.dm_base.specs.Path.{Path}
use Rattle.dm_base.specs.declared.ids.ModuleId.{ModuleId}
use Rattle.dm_base.specs.declared.item_ids.MacroId.{MacroId}
use Rattle.dm_base.specs.declared.item_ids.ModuleDefId.{ModuleDefId}
use Rattle.dm_base.specs.declared.imports.ImportId.{ImportId}
use Rattle.dm_base.specs.declared.imports.ImportOrExternCrate.{ImportOrExternCrate}
use Rattle.dm_base.specs.declared.imports.ImportOrGlob.{ImportOrGlob}
use Rattle.dm_base.specs.declared.per_ns.Item.{Item}
use Rattle.dm_base.specs.declared.mod_path.PathKind.{PathKind}
use Rattle.dm_base.specs.declared.per_ns.PerNs.{PerNs}
use Rattle.dm_def_map.specs.declared.modules.modes.BuiltinShadowMode.{BuiltinShadowMode}
use Rattle.dm_def_map.specs.declared.modules.modes.MacroSubNs.{MacroSubNs}
use Rattle.hir_def_map.specs.declared.path_resolution.result.ResolveMode.{ResolveMode}
use Rattle.defmap_script.specs.declared.dump_lines.Dumping.{Dumping}
use Rattle.defmap_script.specs.declared.lines.BadLine.{BadLine}
use Rattle.defmap_script.specs.declared.lines.Command.{Command}
use Rattle.defmap_script.specs.declared.lines.Command.TheVariants as commands
use Rattle.defmap_script.specs.declared.lines.Question.{Question}
use Rattle.defmap_script.specs.declared.lines.Reach.{Reach}
use Rattle.defmap_script.specs.declared.lines.Reach.TheVariants.{Outwards, Alone}
use Rattle.defmap_script.specs.declared.lines.Words.{Words}
use Rattle.defmap_script.specs.declared.seeing_lines.Sight.{Sight}
use Rattle.defmap_script.specs.BuildLines.{Added, added, addition}
use Rattle.defmap_script.specs.DumpLines.{dump_line, dumpmap_line}
use Rattle.defmap_script.specs.SeeingLines.{max_line, min_line, sees_line}
use Rattle.defmap_script.specs.Words.{number, expectations, import_word, macros_word, modes, path_kind, shadow_modes, types_word, values_word}

-- the parts of a line between spaces that are not empty
abbrev pub words : List ℕ → List Name
words line = filter (λ w. not (length w == 0)) (slice_split (λ b. b == 32) line)

abbrev pub words_left : Words → List Name
words_left w = words w.text.now

-- a path, and how it is asked for
pub record Asking : Type 0 where
  pub reach : Reach
  pub from : ModuleId
  pub mode : ResolveMode
  pub shadow : BuiltinShadowMode
  pub expected : Option MacroSubNs
  pub path : Path

-- what a line asks for
pub data Asked : Type 0 where
  Adds : Added → Asked
  Pushes : ModuleId → Name → PerNs → Option ImportOrExternCrate → Asked
  Checks : Asked
  Reopens : Asked
  Asks : Asking → Asked
  Follows : ModuleId → ImportId → Asked
  Looks : Sight → Asked
  Dumps : Dumping → Asked

abbrev pub asking : Question → Asking
asking q = record {
  reach = q.reach;
  from = q.from;
  mode = q.mode;
  shadow = q.shadow;
  expected = q.expected;
  path = record { kind = q.kind; segments = words_left q.segments };
}

-- what a command asks for
abbrev pub asked : Command → Asked
asked (commands.Add a) = Adds (added a)
asked (commands.Push p) = Pushes p.module p.name.now p.res p.import
asked commands.Check = Checks
asked commands.Build = Reopens
asked (commands.Path q) = Asks (asking q)
asked (commands.Import m i) = Follows m i
asked (commands.See s) = Looks s
asked (commands.Dump d) = Dumps d

-- three items and an import
abbrev pub pushed_parts : Option (Option (Item ModuleDefId ImportOrExternCrate)) → Option (Option (Item ModuleDefId ImportOrGlob)) → Option (Option (Item MacroId ImportOrExternCrate)) → Option (Option ImportOrExternCrate) → Option (PerNs × Option ImportOrExternCrate)
pushed_parts (Some t) (Some v) (Some m) (Some i) = Some (record { types = t; values = v; macros = m }, i)
pushed_parts _ _ _ _ = None

abbrev pub pushed : List Name → Option (PerNs × Option ImportOrExternCrate)
pushed (t ∷ v ∷ m ∷ i ∷ []) = pushed_parts (types_word t) (values_word v) (macros_word m) (import_word i)
pushed _ = None

-- the words behind the first of each kind of line
abbrev pub push_line : List Name → Option Asked
push_line (m ∷ name ∷ ws) = option_and_then (λ n. option_map (λ p. Pushes (record { 0 = n }) name p.0 p.1) (pushed ws)) (number m)
push_line _ = None

abbrev pub check_line : List Name → Option Asked
check_line [] = Some Checks
check_line _ = None

abbrev pub build_line : List Name → Option Asked
build_line [] = Some Reopens
build_line _ = None

-- any words may be segments
abbrev pub path_parts : Reach → Option ℕ → Option ResolveMode → Option BuiltinShadowMode → Option (Option MacroSubNs) → Option PathKind → List Name → Option Asked
path_parts reach (Some m) (Some o) (Some s) (Some e) (Some k) names =
    Some (Asks (record { reach = reach; from = record { 0 = m }; mode = o; shadow = s; expected = e; path = record { kind = k; segments = names } }))
path_parts reach _ _ _ _ _ names = None

abbrev pub path_line : Reach → List Name → Option Asked
path_line reach (m ∷ mode ∷ shadow ∷ expected ∷ kind ∷ segments) = path_parts reach (number m) (find_name mode modes) (find_name shadow shadow_modes) (find_name expected expectations) (path_kind kind) segments
path_line reach _ = None

abbrev pub import_parts : Option ℕ → Option ℕ → Option ℕ → Option Asked
import_parts (Some m) (Some u) (Some i) = Some (Follows (record { 0 = m }) (record { use_ = record { 0 = u }; idx = record { 0 = i } }))
import_parts _ _ _ = None

abbrev pub import_line : List Name → Option Asked
import_line (m ∷ u ∷ i ∷ []) = import_parts (number m) (number u) (number i)
import_line _ = None

-- what reads the words behind each first word; behind every other, the line adds
abbrev pub line_forms : List (Name × (List Name → Option Asked))
line_forms =
    (codes "push", push_line) ∷ (codes "check", check_line) ∷ (codes "build", build_line) ∷ (codes "path", path_line Outwards) ∷ (codes "single", path_line Alone)
    ∷ (codes "import", import_line)
    ∷ (codes "max", λ ws. option_map (λ s. Looks s) (max_line ws)) ∷ (codes "min", λ ws. option_map (λ s. Looks s) (min_line ws))
    ∷ (codes "sees", λ ws. option_map (λ s. Looks s) (sees_line ws))
    ∷ (codes "dump", λ ws. option_map (λ d. Dumps d) (dump_line ws)) ∷ (codes "dumpmap", λ ws. option_map (λ d. Dumps d) (dumpmap_line ws)) ∷ []

abbrev pub command : List Name → Option Asked
command [] = None
command (w ∷ ws) = option_map_or (λ form. form ws) (find_name w line_forms) (option_map (λ a. Adds a) (addition (w ∷ ws)))

-- what a line says: nothing, something that is asked for, or nonsense
pub data Said : Type 0 where
  Silence : Said
  Sense : Asked → Said
  Nonsense : Said

abbrev pub said_by : Option Asked → Said
said_by None = Nonsense
said_by (Some a) = Sense a

abbrev pub said_in : List Name → Said
said_in [] = Silence
said_in (w ∷ ws) = said_by (command (w ∷ ws))

-- a line that begins with `#` or has no word says nothing
abbrev pub said : List ℕ → Said
said line = if starts_with nat_eq line (codes "#") then Silence else (if is_utf8 line then said_in (words line) else Nonsense)

abbrev pub said_of : Result (Option Command) BadLine → Said
said_of (Err e) = Nonsense
said_of (Ok None) = Silence
said_of (Ok (Some c)) = Sense (asked c)
