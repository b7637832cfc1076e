-- Macro call styles, as bit flags.
use Rattle.std.specs.Prelude.{Bool, ◌==◌}
use Rattle.std.specs.Int.RustNames.{bit_and}
use Rattle.dm_base.specs.declared.macros.MacroCallStyles.{MacroCallStyles}
use Rattle.dm_base.specs.declared.macros.MacroLoc.{MacroLoc}
use Rattle.dm_base.specs.declared.macros.MacroLoc.TheVariants.{Macro2, MacroRules, Proc}
use Rattle.dm_base.specs.declared.macros.MacroExpander.{MacroExpander}
use Rattle.dm_base.specs.declared.macros.MacroExpander.TheVariants as expander
use Rattle.dm_base.specs.declared.macros.ProcMacroKind.{ProcMacroKind}
use Rattle.dm_base.specs.declared.macros.ProcMacroKind.TheVariants as proc

-- called as `name!(..)`
abbrev pub fn_like : MacroCallStyles
fn_like = record { 0 = 1 }

-- called as an attribute
abbrev pub attr : MacroCallStyles
attr = record { 0 = 2 }

-- called in a `derive`
abbrev pub derive : MacroCallStyles
derive = record { 0 = 4 }

abbrev pub every_style : MacroCallStyles
every_style = record { 0 = 7 }

-- whether all of some styles are among others
abbrev pub has_styles : MacroCallStyles → MacroCallStyles → Bool
has_styles styles some = bit_and styles.0 some.0 == some.0

abbrev pub proc_styles : ProcMacroKind → MacroCallStyles
proc_styles proc.CustomDerive = derive
proc_styles proc.Bang = fn_like
proc_styles proc.Attr = attr

abbrev pub expander_styles : MacroExpander → MacroCallStyles
expander_styles (expander.Declarative own) = own
expander_styles expander.BuiltIn = fn_like
expander_styles expander.BuiltInEager = fn_like
expander_styles expander.BuiltInAttr = attr
expander_styles expander.BuiltInDerive = derive
expander_styles expander.UnimplementedBuiltIn = every_style

-- the styles of a macro
abbrev pub styles_of : MacroLoc → MacroCallStyles
styles_of (Macro2 e) = expander_styles e
styles_of (MacroRules e) = expander_styles e
styles_of (Proc k) = proc_styles k
