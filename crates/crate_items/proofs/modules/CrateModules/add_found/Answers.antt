use Rattle.std.proofs.Common.{◌≡◌, ◌++◌, ◌∙◌, List, Option, ap, rules, subst}
use Rattle.std.specs.Prelude.{IsSome}
use Rattle.crate_items.specs.DeclaredModules.{Module}
use Rattle.crate_items.specs.Modules.{module_of}
use Rattle.crate_items.specs.Sources.{AreSourcesOf, Extends, Source, source_at}
use Rattle.crate_items.specs.declared.files.found.Found.TheVariants.{Declared}
use Rattle.crate_items.proofs.ModuleLemmas.{listing_more, same_listing}
use Rattle.crate_items.proofs.modules.CrateModules.add_found.Goals as goal

pub read-requires-clause-right : goal.read-requires-clause-right
read-requires-clause-right c =
    let same : c.args.self.now.sources ≡ c.self-in-Declared.inside.sources = search rules in
    subst (AreSourcesOf c.args.edition c.args.options.now c.args.files.now) same c.requires.listing.right

pub returns-in_ok-push-in-Faulty-clause-listing : goal.returns-in_ok-push-in-Faulty-clause-listing
returns-in_ok-push-in-Faulty-clause-listing c =
    let sources : c.args.self.now.sources ≡ c.self.inside.sources = search rules in
    let modules : c.args.self.now.modules ≡ c.self.inside.modules.items = search rules in
    same_listing c.args.edition c.args.options.now c.args.files.now c.args.self.now _ sources modules c.requires.listing

pub returns-in_ok-push_left-in-Declared-clause-listing : goal.returns-in_ok-push_left-in-Declared-clause-listing
returns-in_ok-push_left-in-Declared-clause-listing c =
    let same : c.self-in-Declared.inside.sources ≡ c.args.self.now.sources = search rules in
    let before : c.self-in-Declared.inside.modules.items ≡ c.args.self.now.modules = search rules in
    let read : IsSome (source_at c.read.new.self c.in-Declared.declared.file) = search rules in
    let sources : c.push_left.new.self.sources ≡ c.read.new.self = search rules in
    let modules : c.push_left.new.self.modules ≡ c.self-in-Declared.inside.modules.items ++ module_of c.read.new.self (Declared c.in-Declared.declared c.in-Declared.base) = search rules in
    listing_more c.args.edition c.args.options.now c.args.files.now c.args.self.now c.push_left.new.self c.read.new.self c.in-Declared.declared c.in-Declared.base c.requires.listing c.read.ensures.len c.read.ensures.right
    (subst (λ (s : List (Option Source)). Extends s c.read.new.self) same c.read.ensures.kept) read sources
    (modules ∙ ap (λ (ms : List Module). ms ++ module_of c.read.new.self (Declared c.in-Declared.declared c.in-Declared.base)) before)
