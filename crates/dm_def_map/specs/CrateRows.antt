-- Crate data, fresh and with three attributes set, as equations that compute.
use Rattle.std.specs.Prelude.{◌≡◌, true, false, Some, [], ◌∷◌, codes, refl}
use Rattle.dm_def_map.specs.CrateData.{CrateData, Symbol, fresh_data, with_feature, limit_of, goes_without_std, enables}

abbrev register_tool : Symbol
register_tool = codes "register_tool"

-- after `set_no_core`, `set_recursion_limit` 4 and `add_feature` of `register_tool`
abbrev set_data : CrateData
set_data = with_feature (record fresh_data { no_core = true; recursion_limit = Some 4 }) register_tool

pub fresh-limit : limit_of fresh_data ≡ 128
fresh-limit = refl

pub fresh-std : goes_without_std fresh_data ≡ false
fresh-std = refl

pub fresh-core : fresh_data.no_core ≡ false
fresh-core = refl

pub fresh-tools : fresh_data.tools ≡ codes "clippy" ∷ codes "rustfmt" ∷ codes "diagnostic" ∷ codes "miri" ∷ codes "rust_analyzer" ∷ []
fresh-tools = refl

pub fresh-feature : enables fresh_data.features register_tool ≡ false
fresh-feature = refl

pub set-limit : limit_of set_data ≡ 4
set-limit = refl

pub set-std : goes_without_std set_data ≡ true
set-std = refl

pub set-core : set_data.no_core ≡ true
set-core = refl

pub set-feature : enables set_data.features register_tool ≡ true
set-feature = refl

pub set-other_feature : enables set_data.features (codes "never_type") ≡ false
set-other_feature = refl
