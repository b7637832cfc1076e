use Rattle.crate_tables.proofs.KeptLemmas.{kept-further, kept-grown, kept-textual}
use Rattle.crate_tables.proofs.TextualLemmas.{table-stays}
use Rattle.crate_tables.proofs.all_lists.fill_lists.Goals as goal

pub returns-in_err-list_definitions-clause-stays : goal.returns-in_err-list_definitions-clause-stays
returns-in_err-list_definitions-clause-stays c =
    kept-textual c.args.builder.now c.list_definitions.new.builder c.in_err-list_definitions.ensures.stays c.in_err-list_definitions.ensures.shown

pub returns-in_err-list_extern_crates-clause-stays : goal.returns-in_err-list_extern_crates-clause-stays
returns-in_err-list_extern_crates-clause-stays c =
    kept-further c.args.builder.now c.list_definitions.new.builder c.list_extern_crates.new.builder
    (kept-textual c.args.builder.now c.list_definitions.new.builder c.in_ok-list_definitions.ensures.stays c.in_ok-list_definitions.ensures.shown)
    (kept-textual c.list_definitions.new.builder c.list_extern_crates.new.builder c.in_err-list_extern_crates.ensures.stays c.in_err-list_extern_crates.ensures.shown)

pub pair_procedural_macros-requires-clause-table : goal.pair_procedural_macros-requires-clause-table
pair_procedural_macros-requires-clause-table c =
    table-stays c.list_definitions.new.builder c.list_extern_crates.new.builder c.args.krate c.args.table.now c.in_ok-list_extern_crates.ensures.stays c.in_ok-list_definitions.ensures.kept

pub returns-in_err-pair_procedural_macros-clause-stays : goal.returns-in_err-pair_procedural_macros-clause-stays
returns-in_err-pair_procedural_macros-clause-stays c =
    kept-further c.args.builder.now c.list_extern_crates.new.builder c.pair_procedural_macros.new.builder
    (kept-further c.args.builder.now c.list_definitions.new.builder c.list_extern_crates.new.builder
    (kept-textual c.args.builder.now c.list_definitions.new.builder c.in_ok-list_definitions.ensures.stays c.in_ok-list_definitions.ensures.shown)
    (kept-textual c.list_definitions.new.builder c.list_extern_crates.new.builder c.in_ok-list_extern_crates.ensures.stays c.in_ok-list_extern_crates.ensures.shown))
    (kept-grown c.list_extern_crates.new.builder c.pair_procedural_macros.new.builder c.in_err-pair_procedural_macros.ensures.grown)

pub returns-clause-stays : goal.returns-clause-stays
returns-clause-stays c =
    kept-further c.args.builder.now c.list_extern_crates.new.builder c.pair_procedural_macros.new.builder
    (kept-further c.args.builder.now c.list_definitions.new.builder c.list_extern_crates.new.builder
    (kept-textual c.args.builder.now c.list_definitions.new.builder c.in_ok-list_definitions.ensures.stays c.in_ok-list_definitions.ensures.shown)
    (kept-textual c.list_definitions.new.builder c.list_extern_crates.new.builder c.in_ok-list_extern_crates.ensures.stays c.in_ok-list_extern_crates.ensures.shown))
    (kept-grown c.list_extern_crates.new.builder c.pair_procedural_macros.new.builder c.in_ok-pair_procedural_macros.ensures.grown)

pub returns-clause-kept : goal.returns-clause-kept
returns-clause-kept c =
    table-stays c.list_extern_crates.new.builder c.pair_procedural_macros.new.builder c.args.krate c.args.table.now c.in_ok-pair_procedural_macros.ensures.grown.known
    (table-stays c.list_definitions.new.builder c.list_extern_crates.new.builder c.args.krate c.args.table.now c.in_ok-list_extern_crates.ensures.stays c.in_ok-list_definitions.ensures.kept)
