-- blocks marked one after another
use Rattle.std.proofs.Common.{ℕ, zero, suc, ◌+◌, ◌<◌, ◌≤◌, ◌≡◌, ◌∙◌, sym, ap, refl, inl, inr, arith, Bool, true, false, cond, List, [], ◌∷◌, length, get_or, drop, slice_set}
use Rattle.std.proofs.lemmas.List.{at_drop_more, length-set, get_or-set_other}
use Rattle.std.proofs.lemmas.Grind.{get_or-set_at}
use Rattle.std.proofs.lemmas.Bool.{eq-eqb, ne_eqb, cases_eq}
use Rattle.qsg_num.specs.declared.ids.Block.{Block}
use Rattle.qsg_space.specs.Spaces.{marked, has_block}

pub set-past : {X : Type 0} (xs : List X) (i : ℕ) (x : X) → length xs ≤ i → slice_set xs i x ≡ xs
set-past [] i x h = refl
set-past (y ∷ ys) zero x h = absurd (omega arith)
set-past (y ∷ ys) (suc i) x h = ap (λ zs. y ∷ zs) (set-past ys i x (omega arith))

pub marked-next : (now : Bool) (bs : List Block) (i : ℕ) (d : Block) (used : List Bool) → i < length bs → marked now (drop i bs) used ≡ marked now (drop (i + 1) bs) (slice_set used (get_or bs i d).number now)
marked-next now bs i d used h = at_drop_more (λ xs. marked now xs used) bs i d h

pub length-marked : (now : Bool) (bs : List Block) (used : List Bool) → length (marked now bs used) ≡ length used
length-marked now [] used = refl
length-marked now (b ∷ bs) used = length-marked now bs (slice_set used b.number now) ∙ length-set used b.number now

cond-same : {X : Type 0} (b : Bool) (x : X) → cond b x x ≡ x
cond-same true x = refl
cond-same false x = refl

-- how a block reads after blocks were marked
pub get_or-marked : (now : Bool) (bs : List Block) (used : List Bool) (b : Block) (d : Bool) → b.number < length used → get_or (marked now bs used) b.number d ≡ cond (has_block b bs) now (get_or used b.number d)
get_or-marked now [] used b d h = refl
get_or-marked now (x ∷ bs) used b d h =
    let l = length-set used x.number now in
    let rest = get_or-marked now bs (slice_set used x.number now) b d (omega arith) in
    elim (cases_eq x.number b.number) [
      | inl e ↦ rw (eq-eqb x.number b.number e) (rest ∙ ap (cond (has_block b bs) now) (get_or-set_at used x.number b.number now d (sym e) (omega arith)) ∙ cond-same (has_block b bs) now)
      | inr e ↦ rw (ne_eqb x.number b.number e) (rest ∙ ap (cond (has_block b bs) now) (get_or-set_other used x.number b.number now d (λ s. e (sym s))))
    ]
