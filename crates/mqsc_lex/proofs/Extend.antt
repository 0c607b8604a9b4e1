-- Words read so far, and what may follow them.
use Rattle.std.proofs.Common.{◌≡◌, ℕ, List, [], ◌∷◌, ◌++◌, Option, Some, None, refl, sym, ap, subst}
use Rattle.mqsc_lex.specs.Texts.{is_blank}
use Rattle.mqsc_lex.specs.Words.{IsWordAt, EndsWord, IsWordsThen}
use Rattle.mqsc_lex.specs.Reading.{IsCut}
use Rattle.mqsc_lex.specs.Faults.{IsFaultAt}
use Rattle.mqsc_lex.specs.declared.faults.LexFault.{LexFault}
use Rattle.mqsc_lex.specs.declared.words.Word.{Word}

-- no blanks stand first
abbrev pub IsWordsNext : (List ℕ → Type 0) → ℕ → List Word → List ℕ → Type 0
IsWordsNext P total [] back = P back
IsWordsNext P total (w ∷ ws) back = (rest : List ℕ) × IsWordAt total w back rest × EndsWord rest × IsWordsThen P total ws rest

-- nothing, or a fault
abbrev pub Ending : ℕ → Option LexFault → List ℕ → Type 0
Ending total None back = back ≡ []
Ending total (Some fault) back = IsFaultAt total fault back

-- Whatever follows in what is left, it follows the words in the text.
abbrev pub Extends : ℕ → List Word → List ℕ → List ℕ → Type 0
Extends total words rest text = (e : Option LexFault) (more : List Word) → IsWordsNext (Ending total e) total more rest → IsWordsThen (Ending total e) total (words ++ more) text

pub after_blanks : (P : List ℕ → Type 0) (total : ℕ) (more : List Word) (bytes blanks rest : List ℕ) → IsCut is_blank bytes blanks rest → IsWordsNext P total more rest → IsWordsThen P total more bytes
after_blanks P total [] bytes blanks rest cut next = record { blanks = blanks; back = rest; blank = cut.all; split = cut.split; then = next }
after_blanks P total (w ∷ ws) bytes blanks rest cut next = record { blanks = blanks; back = rest; blank = cut.all; split = cut.split; then = next }

pub append-words : (ws : List Word) (w : Word) (more : List Word) → (ws ++ w ∷ []) ++ more ≡ ws ++ w ∷ more
append-words [] w more = refl
append-words (v ∷ ws) w more = ap (λ l. v ∷ l) (append-words ws w more)

pub extends_one : (total : ℕ) (ws : List Word) (w : Word) (rest behind blanks next text : List ℕ) → Extends total ws rest text → IsWordAt total w rest behind → EndsWord behind → IsCut is_blank behind blanks next → Extends total (ws ++ w ∷ []) next text
extends_one total ws w rest behind blanks next text so_far is ends cut = λ e more n. subst (λ l. IsWordsThen (Ending total e) total l text) (sym (append-words ws w more)) (so_far e (w ∷ more) (behind, is, ends, after_blanks (Ending total e) total more behind blanks next cut n))

pub extends_none : (total : ℕ) (text blanks rest : List ℕ) → IsCut is_blank text blanks rest → Extends total [] rest text
extends_none total text blanks rest cut = λ e more n. after_blanks (Ending total e) total more text blanks rest cut n
