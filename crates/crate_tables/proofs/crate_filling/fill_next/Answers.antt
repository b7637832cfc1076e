use Rattle.crate_tables.proofs.RunLemmas.{number-runs}
use Rattle.std.proofs.Common.{◌≡◌, ◌∙◌, ap, arith, subst, sym}
use Rattle.std.specs.Prelude.{All, slice_get}
use Rattle.crate_tables.proofs.FillingLemmas.{fault-in, linkable-known, tables-more}
use Rattle.crate_tables.specs.CrateFillings.{IsCrateIn, IsKnownTable}
use Rattle.crate_tables.specs.ExternCrates.{Linked}
use Rattle.dm_base.specs.declared.ids.Crate.{Crate}
use Rattle.crate_tables.proofs.crate_filling.fill_next.Goals as goal

pub fill_crate-requires-clause-root : goal.fill_crate-requires-clause-root
fill_crate-requires-clause-root c = c.requires.roots c.crate_at-krate.result (omega (arith, c.crate_at-krate.ensures, c.requires.within))

pub fill_crate-requires-clause-roots : goal.fill_crate-requires-clause-roots
fill_crate-requires-clause-roots c =
    linkable-known c.args.builder.now _ c.crate_at-krate.result c.args.described.now (omega (arith, c.crate_at-krate.ensures, c.requires.within)) c.requires.roots c.requires.needs

pub returns-in-Err-clause-fault : goal.returns-in-Err-clause-fault
returns-in-Err-clause-fault c =
    fault-in _ _ c.args.reading.now c.args.graph.now c.crate_at-krate.result c.args.described.now c.in-Err.fault (ap (slice_get c.args.graph.now) c.crate_at-krate.ensures ∙ c.requires.at)
    (number-runs c.args.reading.now c.crate_at-krate.result c.args.number c.args.described.now c.args.builder.now c.args.externs.now.items c.crate_at-krate.ensures) c.in-Err.ensures.fault

pub returns-in_ok-list-in-Ok-clause-known : goal.returns-in_ok-list-in-Ok-clause-known
returns-in_ok-list-in-Ok-clause-known c =
    subst (All (IsKnownTable c.fill_crate.new.builder)) (sym c.in_ok-list-in-Ok.ensures.tables)
    (tables-more c.args.builder.now c.fill_crate.new.builder c.crate_at-krate.result c.args.tables.now.items c.in-Ok.filled.table c.in-Ok.ensures.stays c.requires.known c.in-Ok.ensures.kept)

pub returns-in_ok-list-in-Ok-clause-filled : goal.returns-in_ok-list-in-Ok-clause-filled
returns-in_ok-list-in-Ok-clause-filled c =
    let l = c.in-Ok.filled.list in
    let s : Linked = record { world = c.fill_crate.new.builder; table = c.in-Ok.filled.table; rows = c.fill_crate.new.externs.items } in
    let one : c.crate_at-krate.result ≡ record { 0 = c.args.number } = λ i. record { 0 = c.crate_at-krate.ensures i } in (
      l,
      s,
      subst (λ (k : Crate). IsCrateIn c.args.reading.now k c.args.described.now c.args.builder.now c.args.externs.now.items l s) one c.in-Ok.ensures.filled,
      λ i. record {
        world = c.fill_crate.new.builder;
        lists = c.in_ok-list-in-Ok.ensures.lists i;
        tables = c.in_ok-list-in-Ok.ensures.tables i;
        rows = c.fill_crate.new.externs.items;
      },
    )
