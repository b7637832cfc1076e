-- When two diagnostics have the same content, as their `==` says. Of their texts the bytes count, and not the capacity.
use Rattle.std.specs.Prelude.{◌≡◌, true, List, [], ◌∷◌, map, string_bytes, refl}
use Rattle.std.specs.Cmp.Lexicographic.{pointwise, bytes_decides}
use Rattle.std.specs.String.{string_eq}
use Rattle.std.proofs.Common.{rules, ap, sym, ◌∙◌, Global, String}
use Rattle.std.proofs.lemmas.Bool.{and_from, and_parts}
use Rattle.dm_base.specs.contracts.value_eq.ModPathValueEq.TheImpl.Laws as path_value
use Rattle.dm_base.specs.declared.ids.ModuleId.{ModuleId}
use Rattle.dm_base.specs.contracts.ids.ModuleIdPartialEq.TheImpl as module_eq
use Rattle.dm_base.specs.declared.source.AstId.{AstId}
use Rattle.dm_base.specs.contracts.source.AstIdPartialEq.TheImpl as ast_eq
use Rattle.dm_base.specs.contracts.value_eq.AstIdValueEq.TheImpl.Laws as ast_value
use Rattle.dm_base.specs.contracts.value_eq.ExpandErrorKindValueEq.TheImpl.Laws as error_value
use Rattle.dm_base.specs.contracts.value_eq.MacroCallKindValueEq.TheImpl.Laws as call_value
use Rattle.dm_base.specs.contracts.value_eq.ModuleIdValueEq.TheImpl.Laws as module_value
use Rattle.dm_scope.specs.declared.diagnostics.DefDiagnostic.{DefDiagnostic}
use Rattle.dm_scope.specs.declared.diagnostics.DefDiagnosticKind.{DefDiagnosticKind}
use Rattle.dm_scope.specs.declared.diagnostics.DefDiagnosticKind.TheVariants as kind
use Rattle.dm_scope.specs.contracts.diagnostics.DefDiagnosticPartialEq.TheImpl as diagnostic_eq
use Rattle.dm_scope.specs.contracts.diagnostics.DefDiagnosticKindPartialEq.TheImpl as kind_eq
use Rattle.dm_scope.specs.contracts.diagnostics.DefDiagnosticKindEq.TheImpl.Laws.{laws-law}

-- kinds that say the same
abbrev pub SaysTheSame : DefDiagnosticKind → DefDiagnosticKind → Type 0
SaysTheSame (kind.UnresolvedModule a cs) (kind.UnresolvedModule b ds) = (a ≡ b) × (map string_bytes cs.items ≡ map string_bytes ds.items)
SaysTheSame (kind.MacroDefError a m) (kind.MacroDefError b n) = (a ≡ b) × (string_bytes m ≡ string_bytes n)
SaysTheSame x y = x ≡ y

-- diagnostics that say the same, of one module
pub record SaySame (x y : DefDiagnostic) : Type 0 where
  pub module_ : x.in_module ≡ y.in_module
  pub kind : SaysTheSame x.kind y.kind

-- lists that say the same, each diagnostic in its place
abbrev pub AllSaySame : List DefDiagnostic → List DefDiagnostic → Type 0
AllSaySame [] [] = Unit {0}
AllSaySame [] (y ∷ ys) = ⊥
AllSaySame (x ∷ xs) [] = ⊥
AllSaySame (x ∷ xs) (y ∷ ys) = SaySame x y × AllSaySame xs ys

texts_same : (xs ys : List (String Global)) → pointwise string_eq xs ys ≡ true → map string_bytes xs ≡ map string_bytes ys
texts_same [] [] e = refl
texts_same [] (y ∷ ys) e = cc
texts_same (x ∷ xs) [] e = cc
texts_same (x ∷ xs) (y ∷ ys) e =
    let parts = and_parts _ _ e in
    λ i. (bytes_decides (string_bytes x) (string_bytes y)).0 parts.0 i ∷ texts_same xs ys parts.1 i

pub kinds_same : (x y : DefDiagnosticKind) → kind_eq.ghosts.eq x y ≡ true → SaysTheSame x y
kinds_same (kind.UnresolvedModule a cs) (kind.UnresolvedModule b ds) e =
    let parts = and_parts _ _ e in (ast_value.same-law a b parts.0, texts_same cs.items ds.items parts.1)
kinds_same (kind.UnresolvedMacroCall a p) (kind.UnresolvedMacroCall b q) e =
    let parts = and_parts _ _ e in λ i. kind.UnresolvedMacroCall (call_value.same-law a b parts.0 i) (path_value.same-law p q parts.1 i)
kinds_same (kind.MacroError a p k) (kind.MacroError b q l) e =
    let first = and_parts _ _ e in
    let rest = and_parts _ _ first.1 in
    λ i. kind.MacroError (ast_value.same-law a b first.0 i) (path_value.same-law p q rest.0 i) (error_value.same-law k l rest.1 i)
kinds_same x y e = Prim.search (rules, bytes_decides)

-- ---- and the other way round

ast_told : (a b : AstId) → a ≡ b → ast_eq.ghosts.eq a b ≡ true
ast_told = Prim.search rules

modules_told : (a b : ModuleId) → a ≡ b → module_eq.ghosts.eq a b ≡ true
modules_told = Prim.search rules

texts_told : (xs ys : List (String Global)) → map string_bytes xs ≡ map string_bytes ys → pointwise string_eq xs ys ≡ true
texts_told [] [] e = refl
texts_told [] (y ∷ ys) e = cc
texts_told (x ∷ xs) [] e = cc
texts_told (x ∷ xs) (y ∷ ys) e = and_from _ _ ((bytes_decides (string_bytes x) (string_bytes y)).1 cc) (texts_told xs ys cc)

kind_told : (x y : DefDiagnosticKind) → x ≡ y → kind_eq.ghosts.eq x y ≡ true
kind_told x y e = ap (kind_eq.ghosts.eq x) (sym e) ∙ laws-law.refl x

pub kinds_told : (x y : DefDiagnosticKind) → SaysTheSame x y → kind_eq.ghosts.eq x y ≡ true
kinds_told (kind.UnresolvedModule a cs) (kind.UnresolvedModule b ds) e = and_from _ _ (ast_told a b e.0) (texts_told cs.items ds.items e.1)
kinds_told (kind.MacroDefError a m) (kind.MacroDefError b n) e = and_from _ _ (ast_told a b e.0) ((bytes_decides (string_bytes m) (string_bytes n)).1 e.1)
kinds_told x y e = kind_told x y e

pub diagnostics_told : (x y : DefDiagnostic) → SaySame x y → diagnostic_eq.ghosts.eq x y ≡ true
diagnostics_told x y e = and_from _ _ (modules_told x.in_module y.in_module e.module_) (kinds_told x.kind y.kind e.kind)

pub diagnostics_same : (x y : DefDiagnostic) → diagnostic_eq.ghosts.eq x y ≡ true → SaySame x y
diagnostics_same x y e = let parts = and_parts _ _ e in record { module_ = module_value.same-law x.in_module y.in_module parts.0; kind = kinds_same x.kind y.kind parts.1 }

-- ---- Lists

pub lists_same : (xs ys : List DefDiagnostic) → pointwise diagnostic_eq.ghosts.eq xs ys ≡ true → AllSaySame xs ys
lists_same [] [] e = tt
lists_same [] (y ∷ ys) e = cc
lists_same (x ∷ xs) [] e = cc
lists_same (x ∷ xs) (y ∷ ys) e = let parts = and_parts _ _ e in (diagnostics_same x y parts.0, lists_same xs ys parts.1)

pub lists_told : (xs ys : List DefDiagnostic) → AllSaySame xs ys → pointwise diagnostic_eq.ghosts.eq xs ys ≡ true
lists_told [] [] e = refl
lists_told [] (y ∷ ys) e = absurd e
lists_told (x ∷ xs) [] e = absurd e
lists_told (x ∷ xs) (y ∷ ys) e = and_from _ _ (diagnostics_told x y e.0) (lists_told xs ys e.1)
