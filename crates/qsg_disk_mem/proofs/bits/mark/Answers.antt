use Rattle.std.proofs.Common.{◌≡◌, ◌≢◌, ◌+◌, ◌*◌, ◌/◌, ◌%◌, ◌<◌, ℕ, List, length, set, get_or, ap, ◌∙◌, refl, sym, arith, w8, bit_or, inl, inr}
use Rattle.std.specs.Prelude.{◌==◌}
use Rattle.std.specs.Int.{bit_at}
use Rattle.std.proofs.lemmas.Bool.{cases_eq}
use Rattle.std.proofs.lemmas.List.{get_or-set_same, get_or-set_other, get_or_default}
use Rattle.std.proofs.lemmas.Nat.Bits.{bit_at_set_same, bit_at_set_other}
use Rattle.qsg_disk_mem.specs.Bits.{is_marked}
use Rattle.qsg_disk_mem.proofs.bits.mark.Goals as goal

same : (bits : List ℕ) (k new : ℕ) → k / 8 < length bits → (j : ℕ) → j / 8 ≡ k / 8 → get_or (set bits (k / 8) new) (j / 8) 0 ≡ new
same bits k new room j is = ap (λ (n : ℕ). get_or (set bits (k / 8) new) n 0) is ∙ get_or-set_same bits (k / 8) new 0 room

pub returns-clause-here : goal.returns-clause-here
returns-clause-here c =
    let bits = c.args.bits.now.items in
    let k = c.args.k in
    let old = c.index-byte.result.now in
    ap (λ (n : ℕ). bit_at n (k % 8) == 1) (same bits k _ c.requires k refl)
    ∙ ap (λ (n : ℕ). n == 1) (bit_at_set_same w8 old (k % 8) (omega arith))

pub returns-clause-others : goal.returns-clause-others
returns-clause-others c j other =
    let bits = c.args.bits.now.items in
    let k = c.args.k in
    let old = c.index-byte.result.now in
    elim (cases_eq (j / 8) (k / 8)) [
      | inl is ↦ ap (λ (n : ℕ). bit_at n (j % 8) == 1) (same bits k _ c.requires j is)
          ∙ ap (λ (n : ℕ). n == 1) (bit_at_set_other w8 old (k % 8) (omega arith) (j % 8) (λ e. omega arith))
          ∙ ap (λ (n : ℕ). bit_at n (j % 8) == 1) (c.index-byte.ensures ∙ get_or_default bits (k / 8) old 0 c.requires ∙ ap (λ (n : ℕ). get_or bits n 0) (sym is))
      | inr apart ↦ ap (λ (n : ℕ). bit_at n (j % 8) == 1) (get_or-set_other bits (k / 8) (j / 8) _ 0 apart)
    ]
