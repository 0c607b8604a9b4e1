-- a text without its last semicolon, byte by byte
use Rattle.std.proofs.Common.{◌≡◌, ℕ, zero, suc, ◌+◌, ◌<◌, ◌≤◌, Bool, true, false, cond, ◌&&◌, ◌==◌, List, [], ◌∷◌, ◌++◌, length, take, drop, get_or, refl, sym, ap, ◌∙◌, add-one, append_assoc}
use Rattle.std.specs.List.{list_all}
use Rattle.std.proofs.Math.Seq.{drop-cons, take-suc}
use Rattle.std.proofs.lemmas.List.{drop_all, append-nil}
use Rattle.mqsc_lex.specs.Texts.{is_blank}
use Rattle.qsg_statement.specs.Texts.{without_semicolon}

-- what is left at place i, behind what stands before it
abbrev pub left_text : List ℕ → ℕ → List ℕ
left_text bytes i = take i bytes ++ without_semicolon (drop i bytes)

-- whether a byte is a semicolon with blanks alone behind it
abbrev pub is_last : ℕ → List ℕ → Bool
is_last b behind = (b == 59) && list_all is_blank behind

here : (bytes : List ℕ) (i b : ℕ) → i < length bytes → b ≡ get_or bytes i b → drop i bytes ≡ b ∷ drop (suc i) bytes
here bytes i b lt e = drop-cons bytes i b lt ∙ ap (λ (x : ℕ). x ∷ drop (suc i) bytes) (sym e)

other : (b : ℕ) (bytes : List ℕ) (t : Bool) → is_last b bytes ≡ t → t ≡ false → without_semicolon (b ∷ bytes) ≡ b ∷ without_semicolon bytes
other b bytes true e f = absurd cc
other b bytes false e f = rw e refl

last : (b : ℕ) (bytes : List ℕ) (t : Bool) → is_last b bytes ≡ t → t ≡ true → without_semicolon (b ∷ bytes) ≡ []
last b bytes true e f = rw e refl
last b bytes false e f = absurd cc

pub left-next : (bytes : List ℕ) (i b : ℕ) → i < length bytes → b ≡ get_or bytes i b → is_last b (drop (i + 1) bytes) ≡ false
    → left_text bytes i ≡ left_text bytes (i + 1)
left-next bytes i b lt e f =
    let g : is_last b (drop (suc i) bytes) ≡ false = ap (λ k. is_last b (drop k bytes)) (sym (add-one i)) ∙ f in
    let front : take (suc i) bytes ≡ take i bytes ++ b ∷ [] = take-suc bytes i b lt ∙ ap (λ (x : ℕ). take i bytes ++ x ∷ []) (sym e) in
    ap (λ rest. take i bytes ++ without_semicolon rest) (here bytes i b lt e)
    ∙ ap (λ rest. take i bytes ++ rest) (other b (drop (suc i) bytes) (is_last b (drop (suc i) bytes)) refl g)
    ∙ sym (append_assoc (take i bytes) (b ∷ []) (without_semicolon (drop (suc i) bytes)))
    ∙ ap (λ before. before ++ without_semicolon (drop (suc i) bytes)) (sym front)
    ∙ ap (left_text bytes) (sym (add-one i))

pub left-found : (bytes : List ℕ) (i b : ℕ) → i < length bytes → b ≡ get_or bytes i b → is_last b (drop (i + 1) bytes) ≡ true
    → left_text bytes i ≡ take i bytes
left-found bytes i b lt e f =
    let g : is_last b (drop (suc i) bytes) ≡ true = ap (λ k. is_last b (drop k bytes)) (sym (add-one i)) ∙ f in
    ap (λ rest. take i bytes ++ without_semicolon rest) (here bytes i b lt e)
    ∙ ap (λ rest. take i bytes ++ rest) (last b (drop (suc i) bytes) (is_last b (drop (suc i) bytes)) refl g)
    ∙ append-nil (take i bytes)

pub left-end : (bytes : List ℕ) (i : ℕ) → length bytes ≤ i → left_text bytes i ≡ take i bytes
left-end bytes i le = ap (λ rest. take i bytes ++ without_semicolon rest) (drop_all i bytes le) ∙ append-nil (take i bytes)
