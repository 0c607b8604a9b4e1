-- Reading and writing piece by piece.
use Rattle.std.proofs.Common.{◌≡◌, ℕ, ◌+◌, ◌-◌, ◌≤◌, List, [], ◌++◌, length, take, drop, Option, Some, None, refl, sym, ap, ◌∙◌, append_assoc, arith, length-drop}
use Rattle.std.specs.Io.KnownBytes.{Appends, Consumes, IsAtEnd}
use Rattle.std.proofs.lemmas.List.{append-nil, take_all, take_at, take-take, drop-take, drop-drop, take-append-drop}
use Rattle.qsg_io.specs.Writes.{AppendsFront}
use Rattle.qsg_run.specs.Outside.{read_limit, Reads, WroteUpTo}

pub reads_to_end : (old mid new : Option (List ℕ)) (before piece bytes : List ℕ) → Consumes old mid before → Consumes mid new piece → IsAtEnd new → bytes ≡ before ++ piece → length bytes ≤ read_limit → Reads old bytes
reads_to_end None mid new before piece bytes a b e is le = tt
reads_to_end (Some xs) None new before piece bytes a b e is le = absurd a
reads_to_end (Some xs) (Some ys) None before piece bytes a b e is le = absurd b
reads_to_end (Some xs) (Some ys) (Some zs) before piece bytes a b e is le =
    let whole : xs ≡ bytes = a ∙ ap (λ (r : List ℕ). before ++ r) (b ∙ ap (λ (r : List ℕ). piece ++ r) e ∙ append-nil piece) ∙ sym is in
    sym (ap (take read_limit) whole ∙ take_all read_limit bytes le)

pub reads_to_limit : (old new : Option (List ℕ)) (bytes : List ℕ) → Consumes old new bytes → length bytes ≡ read_limit → Reads old bytes
reads_to_limit None new bytes a l = tt
reads_to_limit (Some xs) None bytes a l = absurd a
reads_to_limit (Some xs) (Some ys) bytes a l = sym (ap (take read_limit) a ∙ take_at bytes ys read_limit l)

pub appends_both : (old mid new : Option (List ℕ)) (a b : List ℕ) → Appends old mid a → Appends mid new b → Appends old new (a ++ b)
appends_both None mid new a b p q = tt
appends_both (Some xs) None new a b p q = absurd p
appends_both (Some xs) (Some ys) None a b p q = absurd q
appends_both (Some xs) (Some ys) (Some zs) a b p q = q ∙ ap (λ (r : List ℕ). r ++ b) p ∙ append_assoc xs a b

pub take_both : (a n : ℕ) (xs : List ℕ) → take (a + n) xs ≡ take a xs ++ take n (drop a xs)
take_both a n xs = sym (take-append-drop a (take (a + n) xs)) ∙ rw (take-take a (a + n) xs (omega arith), drop-take a n xs) refl

at_place : (old new : Option (List ℕ)) (xs ys : List ℕ) → xs ≡ ys → Appends old new xs → Appends old new ys
at_place old new xs ys e h = rw (← e) h

pub wrote_front : (old mid new : Option (List ℕ)) (text rest : List ℕ) → WroteUpTo old mid text rest → AppendsFront mid new rest → AppendsFront old new text
wrote_front old mid new text rest w f =
    let a = length text - length rest in
    let e : take a text ++ take f.0 rest ≡ take (a + f.0) text = ap (λ (r : List ℕ). take a text ++ take f.0 r) w.what ∙ sym (take_both a f.0 text) in
    (a + f.0, omega (arith, f.1, w.within), at_place old new _ _ e (appends_both old mid new _ _ w.front f.2))

pub wrote_more : (old mid new : Option (List ℕ)) (text rest : List ℕ) (n : ℕ) → WroteUpTo old mid text rest → n ≤ length rest → Appends mid new (take n rest) → WroteUpTo old new text (drop n rest)
wrote_more old mid new text rest n w le p =
    let a = length text - length rest in
    let l : length (drop n rest) ≡ length rest - n = length-drop n rest in
    let place : length text - length (drop n rest) ≡ a + n = omega (arith, l, le, w.within) in
    let e : take a text ++ take n rest ≡ take (length text - length (drop n rest)) text = ap (λ (r : List ℕ). take a text ++ take n r) w.what ∙ sym (take_both a n text) ∙ ap (λ k. take k text) (sym place) in
    record {
      within = omega (arith, l, w.within);
      what = ap (drop n) w.what ∙ drop-drop n a text ∙ ap (λ k. drop k text) (sym place);
      front = at_place old new _ _ e (appends_both old mid new _ _ w.front p);
    }

pub wrote_nothing : (old : Option (List ℕ)) (text : List ℕ) → Appends old old [] → WroteUpTo old old text text
wrote_nothing old text p = record {
  within = omega arith;
  what = let z : length text - length text ≡ 0 = omega arith in rw z refl;
  front = let z : length text - length text ≡ 0 = omega arith in rw z p;
}
