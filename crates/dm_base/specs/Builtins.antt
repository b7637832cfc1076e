-- The builtin types and their names.
use Rattle.std.specs.Prelude.{◌≡◌, List, [], ◌∷◌, None, codes, refl}
use Rattle.dm_base.specs.Names.{Name, find_name}
use Rattle.dm_base.specs.declared.builtin_type.BuiltinInt.{BuiltinInt}
use Rattle.dm_base.specs.declared.builtin_type.BuiltinInt.TheVariants as int
use Rattle.dm_base.specs.declared.builtin_type.BuiltinUint.{BuiltinUint}
use Rattle.dm_base.specs.declared.builtin_type.BuiltinUint.TheVariants as uint
use Rattle.dm_base.specs.declared.builtin_type.BuiltinFloat.{BuiltinFloat}
use Rattle.dm_base.specs.declared.builtin_type.BuiltinFloat.TheVariants as float
use Rattle.dm_base.specs.declared.builtin_type.BuiltinType.{BuiltinType}
use Rattle.dm_base.specs.declared.builtin_type.BuiltinType.TheVariants as builtin

-- the suffixes of signed integers
abbrev pub int_words : List (Name × BuiltinInt)
int_words =
    (codes "isize", int.Isize) ∷ (codes "i8", int.I8) ∷ (codes "i16", int.I16) ∷ (codes "i32", int.I32)
    ∷ (codes "i64", int.I64) ∷ (codes "i128", int.I128) ∷ []

-- the suffixes of unsigned integers
abbrev pub uint_words : List (Name × BuiltinUint)
uint_words =
    (codes "usize", uint.Usize) ∷ (codes "u8", uint.U8) ∷ (codes "u16", uint.U16) ∷ (codes "u32", uint.U32)
    ∷ (codes "u64", uint.U64) ∷ (codes "u128", uint.U128) ∷ []

-- the suffixes of floats
abbrev pub float_words : List (Name × BuiltinFloat)
float_words =
    (codes "f16", float.F16) ∷ (codes "f32", float.F32) ∷ (codes "f64", float.F64) ∷ (codes "f128", float.F128) ∷ []

-- the builtin types in order, each under its name
abbrev pub builtin_words : List (Name × BuiltinType)
builtin_words =
    (codes "char", builtin.Char) ∷ (codes "bool", builtin.Bool) ∷ (codes "str", builtin.Str)
    ∷ (codes "isize", builtin.Int int.Isize) ∷ (codes "i8", builtin.Int int.I8) ∷ (codes "i16", builtin.Int int.I16)
    ∷ (codes "i32", builtin.Int int.I32) ∷ (codes "i64", builtin.Int int.I64) ∷ (codes "i128", builtin.Int int.I128)
    ∷ (codes "usize", builtin.Uint uint.Usize) ∷ (codes "u8", builtin.Uint uint.U8) ∷ (codes "u16", builtin.Uint uint.U16)
    ∷ (codes "u32", builtin.Uint uint.U32) ∷ (codes "u64", builtin.Uint uint.U64) ∷ (codes "u128", builtin.Uint uint.U128)
    ∷ (codes "f16", builtin.Float float.F16) ∷ (codes "f32", builtin.Float float.F32) ∷ (codes "f64", builtin.Float float.F64)
    ∷ (codes "f128", builtin.Float float.F128) ∷ []

abbrev pub int_word : BuiltinInt → Name
int_word int.Isize = codes "isize"
int_word int.I8 = codes "i8"
int_word int.I16 = codes "i16"
int_word int.I32 = codes "i32"
int_word int.I64 = codes "i64"
int_word int.I128 = codes "i128"

abbrev pub uint_word : BuiltinUint → Name
uint_word uint.Usize = codes "usize"
uint_word uint.U8 = codes "u8"
uint_word uint.U16 = codes "u16"
uint_word uint.U32 = codes "u32"
uint_word uint.U64 = codes "u64"
uint_word uint.U128 = codes "u128"

abbrev pub float_word : BuiltinFloat → Name
float_word float.F16 = codes "f16"
float_word float.F32 = codes "f32"
float_word float.F64 = codes "f64"
float_word float.F128 = codes "f128"

-- the name of a builtin type
abbrev pub builtin_word : BuiltinType → Name
builtin_word builtin.Char = codes "char"
builtin_word builtin.Bool = codes "bool"
builtin_word builtin.Str = codes "str"
builtin_word (builtin.Int i) = int_word i
builtin_word (builtin.Uint u) = uint_word u
builtin_word (builtin.Float f) = float_word f

-- what is no builtin type, and no suffix of a signed integer
pub no_builtin_string : find_name (codes "String") builtin_words ≡ None
no_builtin_string = refl

pub no_signed_u8 : find_name (codes "u8") int_words ≡ None
no_signed_u8 = refl
