use Rattle.std.proofs.Common.{◌≡◌, ◌∙◌, ◌++◌, ap, refl}
use Rattle.std.specs.String.{string_bytes}
use Rattle.std.proofs.lemmas.Fmt.{contents_after_writes}
use Rattle.defmap_script.specs.Engine.{reply_text}
use Rattle.defmap_script.proofs.engine.text_of.Goals as goal

pub returns-in-Ok : goal.returns-in-Ok
returns-in-Ok c =
    let bs = reply_text c.args.reply in
    ap string_bytes c.into_inner.ensures
    ∙ contents_after_writes _ string_bytes (λ w l v t. t) _ bs _ (c.in-Ok.ensures.writes c.new-f.ensures.plain refl).wrote
    ∙ ap (λ l. l ++ bs) (ap string_bytes c.new-f.ensures.writer ∙ c.in_ok-with_capacity.ensures.bytes)
