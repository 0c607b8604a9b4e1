-- words without a fault have names in the right form
use Rattle.std.proofs.Common.{suc, ◌≡◌, ℕ, ◌+◌, ◌-◌, ◌≤◌, Bool, true, false, cond, List, [], ◌∷◌, ◌++◌, length, take, drop, get_or, Option, Some, None, refl, ap, sym, ◌∙◌, subst, arith}
use Rattle.std.specs.Prelude.{find, codes, nat_lt, nat_eq, not, ◌&&◌, option_map, option_and_then}
use Rattle.std.specs.List.{list_any}
use Rattle.std.specs.Cmp.Lexicographic.{pointwise, same_text}
use Rattle.std.specs.Option.{option_or}
use Rattle.std.proofs.lemmas.List.{take_all}
use Rattle.mqsc_lex.specs.declared.words.Word.{Word}
use Rattle.mqsc_lex.specs.declared.words.Text.{Text}
use Rattle.mqsc_values.specs.declared.names.NameForm.TheVariants as name
use Rattle.mqsc_values.specs.Names.{is_name, form_of, character_count}
use Rattle.qsg_objects.specs.declared.definitions.Definition.TheVariants as definition
use Rattle.qsg_objects.specs.declared.definitions.CfstructDef.{CfstructDef}
use Rattle.mqsc_define.specs.declared.faults.DefineFault.TheVariants.{UnknownVerb, Twice}
use Rattle.mqsc_define.specs.declared.keywords.Object.{Object}
use Rattle.mqsc_define.specs.declared.keywords.Object.TheVariants as object
use Rattle.mqsc_define.specs.declared.keywords.Keyword.TheVariants as keyword
use Rattle.mqsc_define.specs.declared.keywords.Form.TheVariants as form
use Rattle.mqsc_define.specs.Keywords.{text_of_keyword, keywords_of}
use Rattle.mqsc_define.proofs.Options.{either_none, second_none, first_none}
use Rattle.mqsc_define.specs.Values.{name_fault, value_fault}
use Rattle.mqsc_define.specs.Faults.{is_verb, known_fault, has_keyword, keyword_of, keyword_fault, word_fault, words_fault, missing_fault, object_of, named_fault, define_fault}
use Rattle.mqsc_define.specs.Definitions.{structure_of, value_text, text_behind, text_or_empty, definition_by, definition_of}

abbrev pub tail_of : List Word → List Word
tail_of words = take (length words - 2) (drop 2 words)

two_less : (n : ℕ) → n ≤ suc (suc n) - 2
two_less n = omega arith

pub definition_at : (words : List Word) (word : Word) → 2 ≤ length words → word ≡ get_or words 1 word → definition_of words ≡ definition_by (object_of word) (text_or_empty (value_text word)) (tail_of words)
definition_at [] word long is = absurd (omega arith)
definition_at (v ∷ []) word long is = absurd (omega arith)
definition_at (v ∷ w ∷ ks) word long is = rw (is, take_all (suc (suc (length ks)) - 2) ks (two_less (length ks))) refl

pub fault_at : (words : List Word) (word : Word) → 2 ≤ length words → word ≡ get_or words 1 word → define_fault words ≡ None → named_fault (object_of word) word (tail_of words) ≡ None
fault_at [] word long is none = absurd (omega arith)
fault_at (v ∷ []) word long is none = absurd (omega arith)
fault_at (v ∷ w ∷ ks) word long is none = rw (is, take_all (suc (suc (length ks)) - 2) ks (two_less (length ks))) (first_none (is_verb v) UnknownVerb (named_fault (object_of w) w ks) none)

good_name : (place : ℕ) (text : List ℕ) → name_fault place (form_of text 12) ≡ None → is_name text ≡ true
good_name place text none = by (nat_lt 12 (character_count text)) (is_name text) none
  where
    by : (long good : Bool) → name_fault place (cond long name.TooLong (cond good name.Good name.Bad)) ≡ None → good ≡ true
    by true good e = absurd (cc)
    by false true e = refl
    by false false e = absurd (cc)

value_named : (place : ℕ) (value : Option Text) (text : List ℕ) → value_fault place form.StructureName value ≡ None → option_map (λ (t : Text). t.text) value ≡ Some text → is_name text ≡ true
value_named place None text none e = absurd (cc)
value_named place (Some t) text none e = let same : t.text ≡ text = cc in rw (← same) (good_name place t.text none)

-- the key CFSTRUCT has the keyword CFSTRUCT
its_keyword : (quoted : Bool) (key : List ℕ) → (not quoted && pointwise nat_eq key (codes "CFSTRUCT")) ≡ true → find (λ k. not quoted && pointwise nat_eq key (text_of_keyword k)) (keywords_of object.Qlocal) ≡ Some keyword.Cfstruct
its_keyword true key e = absurd (cc)
its_keyword false key e = subst (λ (text : List ℕ). find (λ k. not false && pointwise nat_eq text (text_of_keyword k)) (keywords_of object.Qlocal) ≡ Some keyword.Cfstruct) (sym (same_text key (codes "CFSTRUCT") (sym e))) refl

word_named : (before : List Word) (word : Word) (text : List ℕ) → has_keyword keyword.Cfstruct word ≡ true → word_fault object.Qlocal before word ≡ None → value_text word ≡ Some text → is_name text ≡ true
word_named before word text has none is =
    let k : keyword_of object.Qlocal word ≡ Some keyword.Cfstruct = its_keyword word.key_quoted word.key has in
    let known : known_fault (2 + length before) before word keyword.Cfstruct ≡ None = subst (λ o. keyword_fault (2 + length before) before word o ≡ None) k none in
    value_named (2 + length before) word.value text (second_none (list_any (has_keyword keyword.Cfstruct) before) (Twice (2 + length before)) (value_fault (2 + length before) form.StructureName word.value) known) is

-- the structure of a queue has a name in the right form
pub structure_named : (before words : List Word) → words_fault object.Qlocal before words ≡ None → (text : List ℕ) → text_behind keyword.Cfstruct words ≡ Some text → is_name text ≡ true
structure_named before [] none text is = absurd (cc)
structure_named before (w ∷ ws) none text is =
    let nones = either_none (word_fault object.Qlocal before w) (words_fault object.Qlocal (before ++ w ∷ []) ws) none in
    by (has_keyword keyword.Cfstruct w) refl (structure_named (before ++ w ∷ []) ws nones.1 text) is
  where
    by : (b : Bool) → has_keyword keyword.Cfstruct w ≡ b → (text_behind keyword.Cfstruct ws ≡ Some text → is_name text ≡ true) → option_and_then value_text (cond b (Some w) (find (has_keyword keyword.Cfstruct) ws)) ≡ Some text → is_name text ≡ true
    by true has rest e = word_named before w text has (either_none (word_fault object.Qlocal before w) (words_fault object.Qlocal (before ++ w ∷ []) ws) none).0 e
    by false has rest e = rest e

keywords_good : (o : Option Object) (word : Word) (ks : List Word) → o ≡ Some object.Qlocal → named_fault o word ks ≡ None → words_fault object.Qlocal [] ks ≡ None
keywords_good None word ks is none = absurd (cc)
keywords_good (Some object.Cfstruct) word ks is none = absurd (cc)
keywords_good (Some object.Qlocal) word ks is none =
    (either_none (words_fault object.Qlocal [] ks) (missing_fault object.Qlocal ks)
    (either_none (value_fault 1 form.QueueName word.value) (option_or (words_fault object.Qlocal [] ks) (missing_fault object.Qlocal ks)) none).1).0

pub structure_named_at : (words : List Word) (word : Word) → 2 ≤ length words → word ≡ get_or words 1 word → define_fault words ≡ None → object_of word ≡ Some object.Qlocal → (text : List ℕ) → text_behind keyword.Cfstruct (tail_of words) ≡ Some text → is_name text ≡ true
structure_named_at words word long is none names = structure_named [] (tail_of words) (keywords_good (object_of word) word (tail_of words) names (fault_at words word long is none))

pub defined_structure : (words : List Word) (word : Word) (text name : List ℕ) (d : CfstructDef) → 2 ≤ length words → word ≡ get_or words 1 word → object_of word ≡ Some object.Cfstruct → value_text word ≡ Some text → name ≡ text → d ≡ structure_of name (tail_of words) → definition.Cfstruct d ≡ definition_of words
defined_structure words word text name d long is names said same e =
    ap definition.Cfstruct (e ∙ ap (λ n. structure_of n (tail_of words)) same)
    ∙ sym (definition_at words word long is
    ∙ ap (λ o. definition_by o (text_or_empty (value_text word)) (tail_of words)) names
    ∙ ap (λ t. definition.Cfstruct (structure_of (text_or_empty t) (tail_of words))) said)
