-- When colours are shown.
use Rattle.std.specs.Prelude.{Bool, true, false, if◌then◌else◌}
use Rattle.defmap_inputs.specs.declared.colours.When.{When}
use Rattle.defmap_inputs.specs.declared.colours.When.TheVariants.{Auto, Always, Never}

-- where nothing is said, on a terminal, unless the environment asks for none
abbrev pub shows : When → Bool → Bool → Bool
shows Auto terminal plain = if plain then false else terminal
shows Always terminal plain = true
shows Never terminal plain = false
