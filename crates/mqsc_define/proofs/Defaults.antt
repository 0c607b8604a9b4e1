-- defaults of keywords that are absent
use Rattle.std.proofs.Common.{◌≡◌, ℕ, Bool, true, false, cond, List, [], ◌∷◌, Some, None, refl, ap}
use Rattle.std.specs.Prelude.{find, ◌||◌, codes}
use Rattle.std.specs.List.{list_any}
use Rattle.std.specs.Option.{option_and_then}
use Rattle.mqsc_lex.specs.declared.words.Word.{Word}
use Rattle.qsg_num.specs.declared.seats.Priority.TheVariants as priority
use Rattle.mqsc_define.specs.declared.keywords.Keyword.{Keyword}
use Rattle.mqsc_define.specs.declared.keywords.Keyword.TheVariants as keyword
use Rattle.mqsc_define.specs.Faults.{has_keyword}
use Rattle.mqsc_define.specs.Definitions.{value_text, text_behind, is_said, count_or, kilobytes_or, block_or, priority_or, delivery_of, buffers_of, expands_of, structure_of, queue_of}
use Rattle.mqsc_define.specs.Laws.{IsAbsent, HasStructureDefaults, HasQueueDefaults}

none_passes : {X : Type 0} (p : X → Bool) (xs : List X) → list_any p xs ≡ false → find p xs ≡ None
none_passes p [] e = refl
none_passes p (x ∷ xs) e = by (p x) (none_passes p xs) e
  where
    by : (b : Bool) → (list_any p xs ≡ false → find p xs ≡ None) → (b || list_any p xs) ≡ false → cond b (Some x) (find p xs) ≡ None
    by true rest f = absurd (cc)
    by false rest f = rest f

nothing_behind : (keyword : Keyword) (words : List Word) → IsAbsent keyword words → text_behind keyword words ≡ None
nothing_behind keyword words absent = ap (option_and_then value_text) (none_passes (has_keyword keyword) words absent)

pub structure_defaults : (name : List ℕ) (words : List Word) → HasStructureDefaults words (structure_of name words)
structure_defaults name words = record {
  recover = λ absent. ap (is_said (codes "YES") true) (nothing_behind keyword.Recover words absent);
  threshold_1 = λ absent. ap (count_or 70 100) (nothing_behind keyword.Offld1th words absent);
  threshold_2 = λ absent. ap (count_or 80 100) (nothing_behind keyword.Offld2th words absent);
  threshold_3 = λ absent. ap (count_or 90 100) (nothing_behind keyword.Offld3th words absent);
  size_1 = λ absent. ap (kilobytes_or 32) (nothing_behind keyword.Offld1sz words absent);
  size_2 = λ absent. ap (kilobytes_or 4) (nothing_behind keyword.Offld2sz words absent);
  size_3 = λ absent. ap (kilobytes_or 0) (nothing_behind keyword.Offld3sz words absent);
  dsblock = λ absent. ap (block_or 262144) (nothing_behind keyword.Dsblock words absent);
  dsbufs = λ absent. ap buffers_of (nothing_behind keyword.Dsbufs words absent);
  dsexpand = λ absent. ap expands_of (nothing_behind keyword.Dsexpand words absent);
  descr = λ absent. nothing_behind keyword.Descr words absent;
}

pub queue_defaults : (name : List ℕ) (words : List Word) → HasQueueDefaults words (queue_of name words)
queue_defaults name words = record {
  put = λ absent. ap (is_said (codes "ENABLED") true) (nothing_behind keyword.Put words absent);
  get = λ absent. ap (is_said (codes "ENABLED") true) (nothing_behind keyword.Get words absent);
  defprty = λ absent. ap (λ text. priority_or priority.Zero (count_or 0 9 text)) (nothing_behind keyword.Defprty words absent);
  defpsist = λ absent. ap (is_said (codes "YES") false) (nothing_behind keyword.Defpsist words absent);
  msgdlvsq = λ absent. ap (λ text. delivery_of (is_said (codes "FIFO") false text)) (nothing_behind keyword.Msgdlvsq words absent);
  maxdepth = λ absent. ap (count_or 999999999 999999999) (nothing_behind keyword.Maxdepth words absent);
  maxmsgl = λ absent. ap (count_or 4194304 104857600) (nothing_behind keyword.Maxmsgl words absent);
  descr = λ absent. nothing_behind keyword.Descr words absent;
}
