-- a text is one statement, or has one first fault
use Rattle.std.proofs.Common.{◌≡◌, ℕ, List, Option, Some, None, refl, sym, subst, ◌∙◌, ap}
use Rattle.mqsc_lex.specs.declared.words.Word.{Word}
use Rattle.mqsc_lex.specs.declared.faults.LexFault.{LexFault}
use Rattle.mqsc_lex.specs.Words.{AreWordsOf}
use Rattle.mqsc_lex.specs.Faults.{IsLeftmost}
use Rattle.mqsc_lex.proofs.Leftmost.{same_words, words_or_leftmost, same_leftmost}
use Rattle.qsg_draft.specs.Contents.{Contents}
use Rattle.qsg_grammar.specs.declared.kinds.Kind.{Kind}
use Rattle.qsg_grammar.specs.declared.faults.Fault.{Fault}
use Rattle.qsg_grammar.specs.declared.whys.Why.{Why}
use Rattle.qsg_grammar.specs.declared.whys.Why.TheVariants.{Lex}
use Rattle.qsg_grammar.specs.Starting.{kind_of}
use Rattle.qsg_grammar.specs.Faults.{kind_fault, fault_by, statement_fault}
use Rattle.qsg_grammar.specs.Whys.{why_of}
use Rattle.qsg_statement.specs.declared.statements.Statement.{Statement}
use Rattle.qsg_statement.specs.Texts.{read_text}
use Rattle.qsg_statement.specs.Statements.{statement_of}
use Rattle.qsg_statement.specs.Reading.{MeansWords, IsStatement, IsNoWords, AreWordsAtFault, IsWhy}

-- words that mean a statement have no fault
pub right_words : (c : Contents) (words : List Word) (s : Statement) → MeansWords c words s → statement_fault c words ≡ None
right_words c words s m = subst (λ o. fault_by c o words ≡ None) (sym m.starts) m.right

same_meaning : (c : Contents) (words : List Word) (a b : Statement) → MeansWords c words a → MeansWords c words b → a ≡ b
same_meaning c words a b m n =
    let kinds : Some m.kind ≡ Some n.kind = sym m.starts ∙ n.starts in
    let same : m.kind ≡ n.kind = cc in
    m.means ∙ ap (λ k. statement_of c k words) same ∙ sym n.means

pub one_statement : (c : Contents) (text : List ℕ) (a b : Statement) → IsStatement c text a → IsStatement c text b → a ≡ b
one_statement c text a b s t =
    let same = same_words (read_text text) s.words t.words s.spelled t.spelled in
    same_meaning c t.words a b (subst (λ ws. MeansWords c ws a) same s.means) t.means

same_fault : (c : Contents) (text : List ℕ) (a b : Why) (ws vs : List Word) → ws ≡ vs → (f g : Fault) → statement_fault c ws ≡ Some f
    → statement_fault c vs ≡ Some g → a ≡ why_of text ws f → b ≡ why_of text vs g → a ≡ b
same_fault c text a b ws vs same f g e h says told =
    let faults : Some f ≡ Some g = sym e ∙ ap (statement_fault c) same ∙ h in
    let fault : f ≡ g = cc in
    says ∙ ap (λ (xs : List Word). why_of text xs f) same ∙ ap (why_of text vs) fault ∙ sym told

pub one_fault : (c : Contents) (text : List ℕ) (a b : Why) → IsWhy c text a → IsWhy c text b → a ≡ b
one_fault c text a b (IsWhy.no_words m) (IsWhy.no_words n) =
    m.says ∙ ap Lex (same_leftmost (read_text text) m.fault n.fault m.leftmost n.leftmost) ∙ sym n.says
one_fault c text a b (IsWhy.no_words m) (IsWhy.words_at_fault n) = absurd (words_or_leftmost (read_text text) n.words m.fault n.spelled m.leftmost)
one_fault c text a b (IsWhy.words_at_fault m) (IsWhy.no_words n) = absurd (words_or_leftmost (read_text text) m.words n.fault m.spelled n.leftmost)
one_fault c text a b (IsWhy.words_at_fault m) (IsWhy.words_at_fault n) =
    same_fault c text a b m.words n.words (same_words (read_text text) m.words n.words m.spelled n.spelled) m.fault n.fault m.stands n.stands m.says n.says

pub never_both : (c : Contents) (text : List ℕ) (s : Statement) (w : Why) → IsStatement c text s → IsWhy c text w → ⊥
never_both c text s w is (IsWhy.no_words n) = words_or_leftmost (read_text text) is.words n.fault is.spelled n.leftmost
never_both c text s w is (IsWhy.words_at_fault n) =
    let same = same_words (read_text text) n.words is.words n.spelled is.spelled in
    let none : statement_fault c n.words ≡ None = ap (statement_fault c) same ∙ right_words c is.words s is.means in
    absurd cc
