use Rattle.dm_base.proofs.per_ns.PerNs.filter_visibility.Goals as goal

-- src/per_ns.rt:276:13
pub kept_if-values-requires : goal.kept_if-values-requires
kept_if-values-requires g c = c.requires.of_value c.kept_if-types.result c.kept_if-types.new.f c.kept_if-types.ensures

-- src/per_ns.rt:277:13
pub kept_if-macros-requires : goal.kept_if-macros-requires
kept_if-macros-requires g c = c.requires.of_macro c.kept_if-types.result c.kept_if-types.new.f c.kept_if-types.ensures c.kept_if-values.result c.kept_if-values.new.f c.kept_if-values.ensures
