-- Where files of modules are looked for: the examples of The Rust Reference, and some of names and dots.
use Rattle.std.specs.Prelude.{◌≡◌, List, ℕ, [], ◌∷◌, Some, None, codes, map}
use Rattle.crate_items.specs.ModDirs.{Dir, File, attr_file, candidates, child, inline, of_file, of_other, of_owner}

-- the paths at which files may be
abbrev pub paths : List File → List (List ℕ)
paths files = map (λ f. f.path) files

-- the two kinds of files, of one folder: `b` is no directory owner, and `mod` is one
abbrev pub b : Dir
b = of_other (codes "src/a/b.rs") (codes "b")

abbrev pub mod_rs : Dir
mod_rs = of_owner (codes "src/a/mod.rs")

-- `mod c;`
abbrev pub PlainInOther : Type 0
PlainInOther = paths (candidates b (codes "c") None) ≡ codes "src/a/b/c.rs" ∷ codes "src/a/b/c/mod.rs" ∷ []

abbrev pub PlainInOwner : Type 0
PlainInOwner = paths (candidates mod_rs (codes "c") None) ≡ codes "src/a/c.rs" ∷ codes "src/a/c/mod.rs" ∷ []

-- the children of a child: those of `util.rs` and of `util/mod.rs` have their files at the same paths
abbrev pub ChildrenOfBoth : Type 0
ChildrenOfBoth =
    map (λ f. paths (candidates (of_file f (codes "util")) (codes "config") None)) (candidates (of_owner (codes "src/lib.rs")) (codes "util") None)
    ≡ (codes "src/util/config.rs" ∷ codes "src/util/config/mod.rs" ∷ []) ∷ (codes "src/util/config.rs" ∷ codes "src/util/config/mod.rs" ∷ []) ∷ []

-- `#[path = "foo.rs"] mod c;`
abbrev pub PathInOther : Type 0
PathInOther = paths (candidates b (codes "c") (Some (codes "foo.rs"))) ≡ codes "src/a/foo.rs" ∷ []

abbrev pub PathInOwner : Type 0
PathInOwner = paths (candidates mod_rs (codes "c") (Some (codes "foo.rs"))) ≡ codes "src/a/foo.rs" ∷ []

-- `mod inline { #[path = "other.rs"] mod inner; }`
abbrev pub PathInInlineOfOther : Type 0
PathInInlineOfOther = paths (candidates (inline b (codes "inline") None) (codes "inner") (Some (codes "other.rs"))) ≡ codes "src/a/b/inline/other.rs" ∷ []

abbrev pub PathInInlineOfOwner : Type 0
PathInInlineOfOwner = paths (candidates (inline mod_rs (codes "inline") None) (codes "inner") (Some (codes "other.rs"))) ≡ codes "src/a/inline/other.rs" ∷ []

-- `#[path = "thread_files"] mod thread { #[path = "tls.rs"] mod local_data; }`
abbrev pub PathOfInlineOfOther : Type 0
PathOfInlineOfOther = paths (candidates (inline b (codes "thread") (Some (codes "thread_files"))) (codes "local_data") (Some (codes "tls.rs"))) ≡ codes "src/a/thread_files/tls.rs" ∷ []

abbrev pub PathOfInlineOfOwner : Type 0
PathOfInlineOfOwner = paths (candidates (inline mod_rs (codes "thread") (Some (codes "thread_files"))) (codes "local_data") (Some (codes "tls.rs"))) ≡ codes "src/a/thread_files/tls.rs" ∷ []

-- the children of a file that a `#[path]` names have their files beside it
abbrev pub ChildrenOfPath : Type 0
ChildrenOfPath =
    map (λ f. paths (candidates (of_file f (codes "c")) (codes "d") None)) (candidates b (codes "c") (Some (codes "gen/foo.rs")))
    ≡ (codes "src/a/gen/d.rs" ∷ codes "src/a/gen/d/mod.rs" ∷ []) ∷ []

-- `mod r#type;` and `mod r#in { mod c; }`
abbrev pub RawName : Type 0
RawName = paths (candidates mod_rs (codes "r#type") None) ≡ codes "src/a/type.rs" ∷ codes "src/a/type/mod.rs" ∷ []

abbrev pub RawInline : Type 0
RawInline = child (inline mod_rs (codes "r#in") None) (codes "c") (codes ".rs") ≡ codes "src/a/in/c.rs"

-- dots, slashes and backslashes
abbrev pub Dots : Type 0
Dots =
    map (attr_file b) (codes "../x/./y.rs" ∷ codes "x/..//y.rs" ∷ codes "../../../../y.rs" ∷ codes "..\\y.rs" ∷ codes "/x/../y.rs" ∷ [])
    ≡ codes "src/x/y.rs" ∷ codes "src/a/y.rs" ∷ codes "../../y.rs" ∷ codes "src/a/..\\y.rs" ∷ codes "/x/../y.rs" ∷ []

-- a folder at the root has none above it
abbrev pub AboveRoot : Type 0
AboveRoot = attr_file (of_owner (codes "/a/lib.rs")) (codes "../../y.rs") ≡ codes "/y.rs"

-- the folder of an inline module, with a slash at its end or without
abbrev pub InlineFolders : Type 0
InlineFolders =
    map (λ path. (inline b (codes "m") (Some path)).folder) (codes "x/" ∷ codes "x" ∷ codes "." ∷ codes ".." ∷ codes "/x" ∷ codes "/" ∷ [])
    ≡ codes "src/a/x/" ∷ codes "src/a/x/" ∷ codes "src/a/" ∷ codes "src/" ∷ codes "/x/" ∷ codes "/" ∷ []
