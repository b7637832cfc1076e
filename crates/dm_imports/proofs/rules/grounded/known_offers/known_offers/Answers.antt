use Rattle.std.proofs.Common.{◌∙◌, ap, Option, None}
use Rattle.std.specs.Prelude.{fold}
use Rattle.dm_imports.specs.declared.glob_import.GlobImport.{GlobImport}
use Rattle.dm_imports.specs.declared.joined.Joined.{Joined}
use Rattle.dm_imports.specs.Brought.{join}
use Rattle.dm_imports.specs.Grounded.{known_offer}
use Rattle.dm_imports.specs.Grounding.{slots_of}
use Rattle.dm_imports.specs.Slots.{Slots, slot_at}
use Rattle.dm_imports.specs.Tables.{MapTables, of_tables}
use Rattle.dm_imports.proofs.JoinLemmas.{joins-all}
use Rattle.dm_imports.proofs.SlotLemmas.{nothing-at}
use Rattle.dm_imports.proofs.rules.grounded.known_offers.known_offers.Goals as goal

pub returns : goal.returns
returns c k x t =
    let d = of_tables c.args.maps.now in
    let f : Option Joined → GlobImport → Option Joined = λ j g. join d.world k j (known_offer d (slots_of c.args.known.now) k x t g) in
    c.in_ok-add_globs.ensures.joined k x t
    ∙ ap (λ y. fold f y c.maps.inside.globs.now) (ap (λ (s : Slots Joined). slot_at s k x t) c.new-all.ensures ∙ nothing-at k x t)
    ∙ ap (λ (m : MapTables). fold f None m.globs) c.maps.view_is
    ∙ joins-all d.world k (known_offer d (slots_of c.args.known.now) k x t) c.args.maps.now.globs
