-- Behind a member of a list the next begins.
use Rattle.std.proofs.Common.{◌≡◌, ◌+◌, ◌-◌, ◌++◌, ◌<◌, ℕ, zero, suc, List, [], ◌∷◌, length, drop, refl, ap, sym, ◌∙◌, arith, append_assoc, length-drop}
use Rattle.std.proofs.lemmas.List.{drop-drop}
use Rattle.item_tree.specs.Members.{first_member, placed, members_from}
use Rattle.item_tree.specs.declared.lexer.lexeme.Lexeme.{Lexeme}
use Rattle.item_tree.specs.declared.items.members.Member.{Member}
use Rattle.item_tree.specs.declared.items.members.MemberKind.{MemberKind}
use Rattle.item_tree.specs.declared.items.members.MemberParts.{MemberParts}
use Rattle.item_tree.specs.declared.lexer.trees.Tree.{Tree}

members_skipped : (kind : MemberKind) (ls : List Lexeme) (end n : ℕ) (ts : List Tree) → members_from kind ls end n ts ≡ members_from kind ls end 0 (drop n ts)
members_skipped kind ls end zero ts = refl
members_skipped kind ls end (suc n) [] = refl
members_skipped kind ls end (suc n) (t ∷ ts) = members_skipped kind ls end n ts

first_of : (kind : MemberKind) (ls : List Lexeme) (end : ℕ) (ts : List Tree) (parts : MemberParts) → 0 < length ts → parts ≡ first_member kind ls ts → 0 < parts.len
    → members_from kind ls end 0 ts ≡ placed kind end parts ts ∷ members_from kind ls end 0 (drop parts.len ts)
first_of kind ls end [] parts some is forward = absurd (omega arith)
first_of kind ls end (t ∷ ts) parts some is forward =
    let more : parts.len ≡ suc (parts.len - 1) = omega arith in
    let there : members_from kind ls end (parts.len - 1) ts ≡ members_from kind ls end 0 (drop parts.len (t ∷ ts))
    = members_skipped kind ls end (parts.len - 1) ts ∙ ap (λ n. members_from kind ls end 0 (drop n (t ∷ ts))) (sym more) in
    ap (λ (p : MemberParts). placed kind end p (t ∷ ts) ∷ members_from kind ls end (p.len - 1) ts) (sym is) ∙ ap (λ xs. placed kind end parts (t ∷ ts) ∷ xs) there

pub next_member : (kind : MemberKind) (ls : List Lexeme) (end : ℕ) (ts seen : List Tree) (i : ℕ) (parts : MemberParts) (member : Member) (so_far : List Member) → i < length ts → seen ≡ drop i ts
    → parts ≡ first_member kind ls seen → 0 < parts.len → member ≡ placed kind end parts seen
    → (so_far ++ member ∷ []) ++ members_from kind ls end 0 (drop (i + parts.len) ts) ≡ so_far ++ members_from kind ls end 0 (drop i ts)
next_member kind ls end ts seen i parts member so_far within same is forward made =
    let some : 0 < length (drop i ts) = omega (arith, length-drop i ts) in
    let whole : parts ≡ first_member kind ls (drop i ts) = is ∙ ap (λ us. first_member kind ls us) same in
    let here : member ≡ placed kind end parts (drop i ts) = made ∙ ap (λ us. placed kind end parts us) same in
    let moved : drop parts.len (drop i ts) ≡ drop (i + parts.len) ts = drop-drop parts.len i ts in
    append_assoc so_far (member ∷ []) (members_from kind ls end 0 (drop (i + parts.len) ts))
    ∙ ap (λ xs. so_far ++ xs)
    (ap (λ (x : Member). x ∷ members_from kind ls end 0 (drop (i + parts.len) ts)) here
    ∙ (ap (λ us. placed kind end parts (drop i ts) ∷ members_from kind ls end 0 us) (sym moved) ∙ sym (first_of kind ls end (drop i ts) parts some whole forward)))
