-- What is told of files that nothing reaches.
use Rattle.std.specs.Prelude.{ℕ, List, codes}
use Rattle.defmap_inputs.specs.declared.orphans.LeftOut.{LeftOut}
use Rattle.defmap_inputs.specs.declared.orphans.LeftOut.TheVariants.{Hidden, Target, Package, Link, OddName, OtherTarget, Named}

-- what was left out, in words
abbrev pub words_of : LeftOut → List ℕ
words_of Hidden = codes "hidden folders"
words_of Target = codes "folders named target"
words_of Package = codes "folders of other packages"
words_of Link = codes "links"
words_of OddName = codes "names that are no UTF-8"
words_of OtherTarget = codes "files of other targets"
words_of Named = codes "files that cfg, a macro call or an include may bring"
