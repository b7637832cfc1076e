use Rattle.std.proofs.Common.{◌∙◌, ap, sym}
use Rattle.std.proofs.lemmas.Map.Made.{is_some-lookup}
use Rattle.std.specs.List.{list_any}
use Rattle.dm_base.specs.Names.{same_name}
use Rattle.dm_def_map.proofs.texts.has_text.Goals as goal

pub returns : goal.returns
returns g c =
    let test = same_name c.args.text.now in
    c.is_among.ensures ∙ ap (list_any test) (c.as_slice.ensures ∙ c.keys.ensures.rest) ∙ sym (is_some-lookup test c.args.table)
