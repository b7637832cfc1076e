-- What an iterator yields, of one that contracts see as the list of what it has left.
use Rattle.std.proofs.Common.{ap, length}
use Rattle.std.proofs.iter.runs.Sources.{from_front}
use Rattle.std.specs.Map.Iter.{TakesFirst, ShowsInOrder}

pub shows_in_order : {A X : Type 0} (shows : A → X) → ShowsInOrder shows
shows_in_order shows = from_front (TakesFirst shows) shows (λ s. s) (λ s t h. ap length h.0) (λ s x t h. h)
