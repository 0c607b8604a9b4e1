-- a history with one more unit
use Rattle.std.proofs.Common.{◌≡◌, ℕ, List, [], ◌∷◌, ◌++◌, sym, ap, subst, ◌∙◌, append_assoc, arith, inl, inr}
use Rattle.std.specs.Prelude.{◌||◌}
use Rattle.std.specs.List.{flat_map, sum_by, fold}
use Rattle.std.proofs.lemmas.List.{append-nil}
use Rattle.std.proofs.lemmas.List.Concat.{flat_map-append}
use Rattle.std.proofs.lemmas.List.Folds.{list_any-append}
use Rattle.std.proofs.lemmas.Bool.{both_ways}
use Rattle.qsg_num.specs.declared.ids.UnitName.{UnitName}
use Rattle.qsg_num.specs.Ids.{same_unit}
use Rattle.qsg_num.specs.declared.seats.StructNo.{StructNo}
use Rattle.qsg_model.specs.declared.history.Op.{Op}
use Rattle.qsg_model.specs.declared.history.Item.{Item}
use Rattle.qsg_model.specs.declared.history.Item.TheVariants.{Unit as UnitOf}
use Rattle.qsg_model.specs.History.{key, has_key, puts, gots, names_by, ops_by, names, put_keys, got_keys, AllDiffer, AllAmong, GotsWerePut, Legal}
use Rattle.qsg_model.specs.Past.{keys_of, is_put, is_got, was_put, was_got, is_unit, after, past_of, nothing, Follows}
use Rattle.qsg_model.proofs.Differing.{differ_append, differ_push, none_passes, same_unit-self, has_contains, not_in, all_among, fold_push}

pub names-push : (h : List Item) (u : UnitName) (ops : List (StructNo × Op)) → names (h ++ UnitOf u ops ∷ []) ≡ names h ++ u ∷ []
names-push h u ops = flat_map-append names_by h (UnitOf u ops ∷ [])

pub put_keys-push : (h : List Item) (u : UnitName) (ops : List (StructNo × Op)) → put_keys (h ++ UnitOf u ops ∷ []) ≡ put_keys h ++ keys_of (puts ops)
put_keys-push h u ops = flat_map-append (λ i. flat_map (λ m. key m ∷ []) (puts (ops_by i))) h (UnitOf u ops ∷ []) ∙ ap (λ ks. put_keys h ++ ks) (append-nil (keys_of (puts ops)))

pub got_keys-push : (h : List Item) (u : UnitName) (ops : List (StructNo × Op)) → got_keys (h ++ UnitOf u ops ∷ []) ≡ got_keys h ++ gots ops
got_keys-push h u ops = flat_map-append (λ i. gots (ops_by i)) h (UnitOf u ops ∷ []) ∙ ap (λ ks. got_keys h ++ ks) (append-nil (gots ops))

pub were_push : (before : List (ℕ × ℕ)) (h : List Item) (i : Item) → GotsWerePut before h → AllAmong (gots (ops_by i)) (before ++ put_keys h) → GotsWerePut before (h ++ i ∷ [])
were_push before [] i w a = (subst (AllAmong (gots (ops_by i))) (append-nil before) a, tt)
were_push before (j ∷ h) i w a = (
  w.0,
  were_push (before ++ put_keys (j ∷ [])) h i w.1
      (subst (AllAmong (gots (ops_by i))) (ap (λ (r : List (ℕ × ℕ)). before ++ (r ++ put_keys h)) (sym (append-nil (flat_map (λ m. key m ∷ []) (puts (ops_by j))))) ∙ sym (append_assoc before (put_keys (j ∷ [])) (put_keys h))) a),
)

-- a unit that may follow leaves a legal history
pub legal_grows : (h : List Item) (u : UnitName) (ops : List (StructNo × Op)) → Legal h → Follows h u ops → Legal (h ++ UnitOf u ops ∷ [])
legal_grows h u ops legal follows = record {
  names_differ = subst AllDiffer (sym (names-push h u ops)) (differ_push (names h) u legal.names_differ (λ c. none_passes (same_unit u) (names h) u follows.name c (same_unit-self u)));
  puts_differ = subst AllDiffer (sym (put_keys-push h u ops)) (differ_append (put_keys h) (keys_of (puts ops)) legal.puts_differ follows.puts_differ
      (λ k c d. elim (Rattle.std.proofs.lemmas.Bool.cases_Bool (is_put k ops)) [
        | inl put ↦ not_in (put_keys h) k (follows.puts_are_new k put) c
        | inr unput ↦ not_in (keys_of (puts ops)) k unput d
      ]));
  gots_differ = subst AllDiffer (sym (got_keys-push h u ops)) (differ_append (got_keys h) (gots ops) legal.gots_differ follows.gots_differ
      (λ k c d. elim (Rattle.std.proofs.lemmas.Bool.cases_Bool (is_got k ops)) [
        | inl got ↦ not_in (got_keys h) k (follows.gots_are_new k got) c
        | inr ungot ↦ not_in (gots ops) k ungot d
      ]));
  gots_were_put = were_push [] h (UnitOf u ops) legal.gots_were_put (all_among (gots ops) (put_keys h) (λ k got. has_contains (put_keys h) k (follows.gots_were_put k got)));
}

-- ---- what it put, got and names

pub was_put-push : (k : ℕ × ℕ) (h : List Item) (u : UnitName) (ops : List (StructNo × Op)) → was_put k (h ++ UnitOf u ops ∷ []) ≡ (was_put k h || is_put k ops)
was_put-push k h u ops = ap (λ ks. has_key ks k) (put_keys-push h u ops) ∙ list_any-append _ (put_keys h) (keys_of (puts ops))

pub was_got-push : (k : ℕ × ℕ) (h : List Item) (u : UnitName) (ops : List (StructNo × Op)) → was_got k (h ++ UnitOf u ops ∷ []) ≡ (was_got k h || is_got k ops)
was_got-push k h u ops = ap (λ ks. has_key ks k) (got_keys-push h u ops) ∙ list_any-append _ (got_keys h) (gots ops)

pub is_unit-push : (v : UnitName) (h : List Item) (u : UnitName) (ops : List (StructNo × Op)) → is_unit v (h ++ UnitOf u ops ∷ []) ≡ (is_unit v h || same_unit v u)
is_unit-push v h u ops = ap (λ us. Rattle.std.specs.List.list_any (same_unit v) us) (names-push h u ops) ∙ list_any-append (same_unit v) (names h) (u ∷ []) ∙ grind arith

-- ---- what it leaves under a key

pub past_of-push : (k : ℕ × ℕ) (h : List Item) (i : Item) → past_of k (h ++ i ∷ []) ≡ after k (past_of k h) i
past_of-push k h i = fold_push (after k) nothing h i

-- ---- an item that is no unit

pub quiet_names : (h : List Item) (i : Item) → names_by i ≡ [] → names (h ++ i ∷ []) ≡ names h
quiet_names h i none = flat_map-append names_by h (i ∷ []) ∙ ap (λ (l : List UnitName). names h ++ (l ++ [])) none ∙ append-nil (names h)

pub quiet_put_keys : (h : List Item) (i : Item) → ops_by i ≡ [] → put_keys (h ++ i ∷ []) ≡ put_keys h
quiet_put_keys h i none =
    flat_map-append (λ j. flat_map (λ m. key m ∷ []) (puts (ops_by j))) h (i ∷ [])
    ∙ ap (λ (w : List (StructNo × Op)). put_keys h ++ (flat_map (λ m. key m ∷ []) (puts w) ++ [])) none
    ∙ append-nil (put_keys h)

pub quiet_got_keys : (h : List Item) (i : Item) → ops_by i ≡ [] → got_keys (h ++ i ∷ []) ≡ got_keys h
quiet_got_keys h i none =
    flat_map-append (λ j. gots (ops_by j)) h (i ∷ [])
    ∙ ap (λ (w : List (StructNo × Op)). got_keys h ++ (gots w ++ [])) none
    ∙ append-nil (got_keys h)

pub quiet_legal : (h : List Item) (i : Item) → names_by i ≡ [] → ops_by i ≡ [] → Legal h → Legal (h ++ i ∷ [])
quiet_legal h i no_name no_ops legal = record {
  names_differ = subst AllDiffer (sym (quiet_names h i no_name)) legal.names_differ;
  puts_differ = subst AllDiffer (sym (quiet_put_keys h i no_ops)) legal.puts_differ;
  gots_differ = subst AllDiffer (sym (quiet_got_keys h i no_ops)) legal.gots_differ;
  gots_were_put = were_push [] h i legal.gots_were_put (subst (λ (w : List (StructNo × Op)). AllAmong (gots w) (put_keys h)) (sym no_ops) tt);
}
