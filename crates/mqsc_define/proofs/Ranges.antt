-- what is defined is in its ranges
use Rattle.std.proofs.Common.{◌≡◌, ℕ, ◌≤◌, Bool, true, false, cond, List, [], ◌∷◌, Option, Some, None, refl, arith}
use Rattle.std.specs.Prelude.{nat_le, ◌-◌, ◌==◌, IfSome, unwrap_or, codes, length, take, slice_index}
use Rattle.std.specs.List.{list_all}
use Rattle.std.proofs.lemmas.Bool.{leb-true, le-leb}
use Rattle.mqsc_lex.specs.declared.words.Word.{Word}
use Rattle.mqsc_values.specs.declared.numbers.Number.TheVariants.{Value, TooLarge, Bad}
use Rattle.mqsc_values.specs.Numbers.{is_number, value_of, number_of}
use Rattle.mqsc_define.specs.declared.keywords.Object.{Object}
use Rattle.mqsc_define.specs.declared.keywords.Object.TheVariants as object
use Rattle.mqsc_define.specs.declared.keywords.Keyword.TheVariants as keyword
use Rattle.mqsc_define.specs.Values.{is_text, block_of}
use Rattle.mqsc_define.specs.Faults.{object_of}
use Rattle.mqsc_define.specs.Definitions.{value_text, text_behind, text_or_empty, number_or, count_or, kilobytes_or, block_or, buffers_of, structure_of, queue_of, definition_by, definition_of}
use Rattle.mqsc_define.specs.Ranges.{IsStructureInRange, IsQueueInRange, IsInRange}

number_bound : (default most : ℕ) (text : List ℕ) → default ≤ most → number_or default (number_of text most) ≤ most
number_bound default most text low = by (is_number text) (nat_le (value_of text) most) refl
  where
    by : (number fits : Bool) → nat_le (value_of text) most ≡ fits → number_or default (cond number (cond fits (Value (value_of text)) TooLarge) Bad) ≤ most
    by true true e = leb-true (value_of text) most e
    by true false e = low
    by false fits e = low

count_bound : (default most : ℕ) (text : Option (List ℕ)) → default ≤ most → count_or default most text ≤ most
count_bound default most None low = low
count_bound default most (Some text) low = number_bound default most text low

kilobytes_bound : (default : ℕ) (text : Option (List ℕ)) → default ≤ 64 → kilobytes_or default text ≤ 64
kilobytes_bound default None low = low
kilobytes_bound default (Some text) low = by (slice_index text (length text - 1) == 75)
  where
    by : (b : Bool) → number_or default (cond b (number_of (take (length text - 1) text) 64) Bad) ≤ 64
    by true = number_bound default 64 (take (length text - 1) text) low
    by false = low

abbrev IsBlock : ℕ → Type 0
IsBlock n = (8192 ≤ n) × (n ≤ 1048576)

abbrev IsBlockIfAny : Option ℕ → Type 0
IsBlockIfAny None = Unit {0}
IsBlockIfAny (Some n) = IsBlock n

this_or : (b : Bool) (n : ℕ) (o : Option ℕ) → IsBlock n → IsBlockIfAny o → IsBlockIfAny (cond b (Some n) o)
this_or true n o is rest = is
this_or false n o is rest = rest

block_bound : (text : List ℕ) → IsBlockIfAny (block_of text)
block_bound text =
    this_or (is_text (codes "8K") text) 8192 _ (omega arith, omega arith)
    (this_or (is_text (codes "16K") text) 16384 _ (omega arith, omega arith)
    (this_or (is_text (codes "32K") text) 32768 _ (omega arith, omega arith)
    (this_or (is_text (codes "64K") text) 65536 _ (omega arith, omega arith)
    (this_or (is_text (codes "128K") text) 131072 _ (omega arith, omega arith)
    (this_or (is_text (codes "256K") text) 262144 _ (omega arith, omega arith)
    (this_or (is_text (codes "512K") text) 524288 _ (omega arith, omega arith)
    (this_or (is_text (codes "1M") text) 1048576 None (omega arith, omega arith) tt)))))))

some_or : (o : Option ℕ) (n : ℕ) → IsBlockIfAny o → IsBlock n → IsBlock (unwrap_or o n)
some_or None n is low = low
some_or (Some m) n is low = is

default_block : IsBlock 262144
default_block = (omega arith, omega arith)

block_or_bound : (text : Option (List ℕ)) → IsBlock (block_or 262144 text)
block_or_bound None = default_block
block_or_bound (Some text) = some_or (block_of text) 262144 (block_bound text) default_block

buffers_bound : (text : Option (List ℕ)) → IfSome (buffers_of text) (λ n. n ≤ 9999)
buffers_bound None = tt
buffers_bound (Some text) = number_bound 0 9999 text (omega arith)

all_three : (most a b c : ℕ) → a ≤ most → b ≤ most → c ≤ most → list_all (λ n. nat_le n most) (a ∷ b ∷ c ∷ []) ≡ true
all_three most a b c x y z = rw (le-leb a most x, le-leb b most y, le-leb c most z) refl

structure_in_range : (name : List ℕ) (words : List Word) → IsStructureInRange (structure_of name words)
structure_in_range name words = record {
  threshold = all_three 100 _ _ _
      (count_bound 70 100 (text_behind keyword.Offld1th words) (omega arith))
      (count_bound 80 100 (text_behind keyword.Offld2th words) (omega arith))
      (count_bound 90 100 (text_behind keyword.Offld3th words) (omega arith));
  size_k = all_three 64 _ _ _
      (kilobytes_bound 32 (text_behind keyword.Offld1sz words) (omega arith))
      (kilobytes_bound 4 (text_behind keyword.Offld2sz words) (omega arith))
      (kilobytes_bound 0 (text_behind keyword.Offld3sz words) (omega arith));
  smallest_block = (block_or_bound (text_behind keyword.Dsblock words)).0;
  largest_block = (block_or_bound (text_behind keyword.Dsblock words)).1;
  dsbufs = buffers_bound (text_behind keyword.Dsbufs words);
}

queue_in_range : (name : List ℕ) (words : List Word) → IsQueueInRange (queue_of name words)
queue_in_range name words = record {
  maxdepth = count_bound 999999999 999999999 (text_behind keyword.Maxdepth words) (omega arith);
  maxmsgl = count_bound 4194304 104857600 (text_behind keyword.Maxmsgl words) (omega arith);
}

by_object : (o : Option Object) (name : List ℕ) (words : List Word) → IsInRange (definition_by o name words)
by_object None name words = queue_in_range name words
by_object (Some object.Cfstruct) name words = structure_in_range name words
by_object (Some object.Qlocal) name words = queue_in_range name words

pub definition_in_range : (words : List Word) → IsInRange (definition_of words)
definition_in_range [] = queue_in_range [] []
definition_in_range (v ∷ []) = queue_in_range [] []
definition_in_range (v ∷ w ∷ words) = by_object (object_of w) (text_or_empty (value_text w)) words
