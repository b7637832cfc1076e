-- Of two visibilities, the most and the least permissive name modules that one of them names.
use Rattle.std.proofs.Common.{◌≡◌, cond, not, subst, true, false, Bool, None, Some}
use Rattle.dm_base.specs.declared.ids.MapId.{MapId}
use Rattle.dm_base.specs.declared.visibility.Visibility.{Visibility}
use Rattle.dm_base.specs.declared.visibility.Visibility.TheVariants.{Module, PubCrate, Public}
use Rattle.dm_base.specs.Tree.{Tree, crate_of, is_ancestor, same_crate, same_module}
use Rattle.dm_base.specs.Visibility.{NamesKnown, both_lie_in, either_explicit, max_of, min_of}

module _ (t : Tree) (v : Visibility) where
  it : (w : Visibility) → NamesKnown t w → Some w ≡ Some v → NamesKnown t v
  it w h e = let same : w ≡ v = cc in subst (NamesKnown t) same h

  if-it : (b : Bool) (w : Visibility) → NamesKnown t w → cond b (Some w) None ≡ Some v → NamesKnown t v
  if-it true w h e = it w h e
  if-it false w h e = cc

  of-four : (a b c d : Bool) (x y z : Visibility) → NamesKnown t x → NamesKnown t y → NamesKnown t z
      → cond a (Some x) (cond b None (cond c (Some y) (cond d (Some z) None))) ≡ Some v → NamesKnown t v
  of-four true b c d x y z h i j e = it x h e
  of-four false true c d x y z h i j e = cc
  of-four false false true d x y z h i j e = it y i e
  of-four false false false d x y z h i j e = if-it d z j e

  pub min-named : (map : MapId) (a b : Visibility) → NamesKnown t a → NamesKnown t b → min_of t map a b ≡ Some v → NamesKnown t v
  min-named map Public b h i e = it b i e
  min-named map (PubCrate k) Public h i e = it (PubCrate k) h e
  min-named map (PubCrate k) (PubCrate l) h i e = if-it (same_crate k l) (PubCrate k) h e
  min-named map (PubCrate k) (Module m x) h i e = if-it (same_crate (crate_of t m) k) (Module m x) i e
  min-named map (Module m x) Public h i e = it (Module m x) h e
  min-named map (Module m x) (PubCrate k) h i e = if-it (same_crate (crate_of t m) k) (Module m x) h e
  min-named map (Module a x) (Module b y) h i e =
      of-four (same_module a b) (not (both_lie_in t map a b)) (is_ancestor t b a) (is_ancestor t a b) (Module a (either_explicit x y)) (Module a x) (Module b y) h h i e

  pub max-named : (map : MapId) (a b : Visibility) → NamesKnown t a → NamesKnown t b → max_of t map a b ≡ Some v → NamesKnown t v
  max-named map Public b h i e = it Public tt e
  max-named map (PubCrate k) Public h i e = it Public tt e
  max-named map (PubCrate k) (PubCrate l) h i e = if-it (same_crate k l) (PubCrate k) h e
  max-named map (PubCrate k) (Module m x) h i e = if-it (same_crate (crate_of t m) k) (PubCrate k) h e
  max-named map (Module m x) Public h i e = it Public tt e
  max-named map (Module m x) (PubCrate k) h i e = if-it (same_crate (crate_of t m) k) (PubCrate k) tt e
  max-named map (Module a x) (Module b y) h i e =
      of-four (same_module a b) (not (both_lie_in t map a b)) (is_ancestor t b a) (is_ancestor t a b) (Module a (either_explicit x y)) (Module b y) (Module a x) h i h e
