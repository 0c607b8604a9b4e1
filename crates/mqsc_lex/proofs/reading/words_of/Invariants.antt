use Rattle.std.proofs.Common.{◌≡◌, ◌+◌, ◌≤◌, length}
use denote.Text.{Utf8}
use denote.Shadow.{shadow}
use Rattle.mqsc_lex.specs.Texts.{is_blank, BeginsOther}
use Rattle.mqsc_lex.proofs.Extend.{Extends}
use Rattle.mqsc_lex.proofs.reading.words_of.Given as goal

abbrev pub invariant-loop-rest : goal.invariant-loop-rest
invariant-loop-rest l = shadow (Utf8 l.rest) × (length l.words.items + length l.rest ≤ length l.text) × (l.total ≡ length l.text) × BeginsOther is_blank l.rest × Extends l.total l.words.items l.rest l.text

abbrev pub decreases-loop-rest : goal.decreases-loop-rest
decreases-loop-rest l = length l.rest
