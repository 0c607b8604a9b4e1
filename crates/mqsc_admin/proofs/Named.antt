-- Behind a keyword of words without a fault stands a name of the right form.
use Rattle.std.proofs.Common.{◌≡◌, ℕ, ◌+◌, Bool, true, false, not, ◌&&◌, nat_lt, if◌then◌else◌, List, [], ◌∷◌, ◌++◌, length, codes, Option, Some, None, option_map, refl, sym, subst}
use Rattle.std.specs.Option.{ForSome}
use Rattle.std.specs.List.{list_any}
use Rattle.std.specs.Cmp.Lexicographic.{same_text}
use Rattle.mqsc_lex.specs.declared.words.Word.{Word}
use Rattle.mqsc_lex.specs.declared.words.Text.{Text}
use Rattle.qsg_num.specs.Names.{is_queue_name}
use Rattle.mqsc_values.specs.declared.names.NameForm.{NameForm}
use Rattle.mqsc_values.specs.declared.names.NameForm.TheVariants as name
use Rattle.mqsc_values.specs.Names.{character_count, is_name, form_of, queue_form_of}
use Rattle.mqsc_define.specs.declared.faults.DefineFault.{DefineFault}
use Rattle.mqsc_define.specs.declared.faults.DefineFault.TheVariants.{Twice}
use Rattle.mqsc_define.specs.Values.{is_text, name_fault}
use Rattle.mqsc_define.specs.Faults.{has_key}
use Rattle.mqsc_define.specs.Definitions.{value_text}
use Rattle.mqsc_define.specs.declared.faults.Required.{Required}
use Rattle.mqsc_define.specs.declared.faults.Required.TheVariants as required
use Rattle.mqsc_admin.specs.declared.keywords.Verb.TheVariants as verb
use Rattle.mqsc_admin.specs.declared.keywords.Object.TheVariants as object
use Rattle.mqsc_admin.specs.declared.keywords.Keyword.{Keyword}
use Rattle.mqsc_admin.specs.declared.keywords.Keyword.TheVariants as keyword
use Rattle.mqsc_admin.specs.declared.keywords.Form.{Form}
use Rattle.mqsc_admin.specs.declared.keywords.Form.TheVariants as form
use Rattle.mqsc_admin.specs.Keywords.{form_of_value}
use Rattle.mqsc_admin.specs.Values.{text_fault, value_fault}
use Rattle.mqsc_admin.specs.Faults.{has_keyword, takes_place, keyword_of, keyword_fault, word_fault, words_fault, missing_fault, keywords_fault, shown_fault, object_fault, verb_fault}
use Rattle.mqsc_admin.specs.Admins.{text_behind}
use Rattle.mqsc_admin.proofs.Options.{neither}

-- Names.

name-good : (place : ℕ) (f : NameForm) → name_fault place f ≡ None → f ≡ name.Good
name-good place name.Good e = refl
name-good place name.TooLong e = absurd cc
name-good place name.Bad e = absurd cc

choice-good : (long good : Bool) → (if long then name.TooLong else if good then name.Good else name.Bad) ≡ name.Good → good ≡ true
choice-good true good e = absurd cc
choice-good false true e = refl
choice-good false false e = absurd cc

pub structure_is_name : (place : ℕ) (text : List ℕ) → text_fault place form.StructureName text ≡ None → is_name text ≡ true
structure_is_name place text e = choice-good (nat_lt 12 (character_count text)) (is_name text) (name-good place (form_of text 12) e)

pub member_is_name : (place : ℕ) (text : List ℕ) → text_fault place form.MemberName text ≡ None → is_name text ≡ true
member_is_name place text e = choice-good (nat_lt 4 (character_count text)) (is_name text) (name-good place (form_of text 4) e)

pub queue_is_name : (place : ℕ) (text : List ℕ) → text_fault place form.QueueName text ≡ None → is_queue_name text ≡ true
queue_is_name place text e = choice-good (nat_lt 48 (character_count text)) (is_queue_name text) (name-good place (queue_form_of text) e)

-- a test of texts that a form makes certain
abbrev pub Makes : Form → (List ℕ → Bool) → Type 0
Makes wanted test = (place : ℕ) (text : List ℕ) → text_fault place wanted text ≡ None → test text ≡ true

same_value : (a b : List ℕ) (test : List ℕ → Bool) → Some a ≡ Some b → test a ≡ true → test b ≡ true
same_value a b test e good = let same : a ≡ b = cc in subst (λ (x : List ℕ). test x ≡ true) same good

value-good : (wanted : Form) (test : List ℕ → Bool) → Makes wanted test → (place : ℕ) (value : Option Text) → value_fault place wanted value ≡ None
    → ForSome (option_map (λ (v : Text). v.text) value) (λ text. test text ≡ true)
value-good wanted test makes place None e text is = absurd cc
value-good wanted test makes place (Some v) e text is = same_value v.text text test is (makes place v.text e)

pub word-good : (wanted : Form) (test : List ℕ → Bool) → Makes wanted test → (place : ℕ) (word : Word) → value_fault place wanted word.value ≡ None
    → ForSome (value_text word) (λ text. test text ≡ true)
word-good wanted test makes place word e = value-good wanted test makes place word.value e

-- Keywords.

untaken : (b : Bool) (f : DefineFault) (o : Option DefineFault) → (if b then Some f else o) ≡ None → o ≡ None
untaken true f o e = absurd cc
untaken false f o e = e

keyword-good : (place : ℕ) (before : List Word) (word : Word) (k : Keyword) (found : Option Keyword) → found ≡ Some k
    → keyword_fault place before word found ≡ None → value_fault place (form_of_value k) word.value ≡ None
keyword-good place before word k found is e =
    let said : keyword_fault place before word (Some k) ≡ None = subst (λ (o : Option Keyword). keyword_fault place before word o ≡ None) is e in
    untaken (list_any (takes_place k) before) (Twice place) (value_fault place (form_of_value k) word.value) said

-- each word with this keyword is taken for it
abbrev pub IsKnown : List Keyword → Keyword → Type 0
IsKnown allowed k = (word : Word) → has_keyword k word ≡ true → keyword_of allowed word ≡ Some k

pub named : (allowed : List Keyword) (first : ℕ) (k : Keyword) (test : List ℕ → Bool) → IsKnown allowed k → Makes (form_of_value k) test
    → (before words : List Word) → words_fault allowed first before words ≡ None → ForSome (text_behind k words) (λ text. test text ≡ true)
named allowed first k test known makes before [] e = λ text is. absurd cc
named allowed first k test known makes before (word ∷ words) e =
    let parts = neither (word_fault allowed first before word) (words_fault allowed first (before ++ word ∷ []) words) e in
    by_key (has_keyword k word) refl parts.0 (named allowed first k test known makes (before ++ word ∷ []) words parts.1) where
      by_key : (b : Bool) → has_keyword k word ≡ b → word_fault allowed first before word ≡ None → ForSome (text_behind k words) (λ text. test text ≡ true)
          → ForSome (text_behind k (word ∷ words)) (λ text. test text ≡ true)
      by_key true h here later =
          let value : value_fault (first + length before) (form_of_value k) word.value ≡ None =
          keyword-good (first + length before) before word k (keyword_of allowed word) (known word h) here in
          rw h (word-good (form_of_value k) test makes (first + length before) word value)
      by_key false h here later = rw h later

both : (a b : Bool) → a && b ≡ true → (a ≡ true) × (b ≡ true)
both true true e = (refl, refl)
both true false e = absurd cc
both false b e = absurd cc

unquoted : (q : Bool) → not q ≡ true → q ≡ false
unquoted true e = absurd cc
unquoted false e = refl

pub key-is : (text : List ℕ) (word : Word) → has_key text word ≡ true → (word.key_quoted ≡ false) × (word.key ≡ text)
key-is text word h =
    let parts = both (not word.key_quoted) (is_text text word.key) h in
    (unquoted word.key_quoted parts.0, same_text word.key text (sym parts.1))

pub first-known : (k : Keyword) (others : List Keyword) → IsKnown (k ∷ others) k
first-known k others word h = rw h refl

pub structure-known : IsKnown (keyword.Smds ∷ keyword.Cfstruct ∷ keyword.Access ∷ keyword.Status ∷ []) keyword.Cfstruct
structure-known word h =
    let is = key-is (codes "CFSTRUCT") word h in
    let other : has_keyword keyword.Smds word ≡ false = rw (is.0, is.1) refl in
    rw (other, h) refl

-- Where a verb or an object has no fault behind it.

words-none : (allowed : List Keyword) (required : List Required) (first : ℕ) (words : List Word) → keywords_fault allowed required first words ≡ None
    → words_fault allowed first [] words ≡ None
words-none allowed required first words e = (neither (words_fault allowed first [] words) (missing_fault required words) e).0

abbrev pub HasName : Keyword → List Word → Type 0
HasName k words = ForSome (text_behind k words) (λ text. is_name text ≡ true)

pub backup-name : (words : List Word) → verb_fault (Some verb.Backup) words ≡ None → HasName keyword.Cfstruct words
backup-name words e =
    let allowed : List Keyword = keyword.Cfstruct ∷ keyword.Exclint ∷ [] in
    named allowed 1 keyword.Cfstruct is_name (first-known keyword.Cfstruct (keyword.Exclint ∷ [])) structure_is_name [] words
    (words-none allowed (required.Cfstruct ∷ []) 1 words e)

pub recover-name : (words : List Word) → verb_fault (Some verb.Recover) words ≡ None → HasName keyword.Cfstruct words
recover-name words e =
    let allowed : List Keyword = keyword.Cfstruct ∷ keyword.Type ∷ [] in
    named allowed 1 keyword.Cfstruct is_name (first-known keyword.Cfstruct (keyword.Type ∷ [])) structure_is_name [] words
    (words-none allowed (required.Cfstruct ∷ []) 1 words e)

abbrev pub of_reset : List Keyword
of_reset = keyword.Smds ∷ keyword.Cfstruct ∷ keyword.Access ∷ keyword.Status ∷ []

abbrev pub needed_by_reset : List Required
needed_by_reset = required.Smds ∷ required.Cfstruct ∷ required.Access ∷ []

pub reset-member : (words : List Word) → verb_fault (Some verb.Reset) words ≡ None → HasName keyword.Smds words
reset-member words e =
    named of_reset 1 keyword.Smds is_name (first-known keyword.Smds (keyword.Cfstruct ∷ keyword.Access ∷ keyword.Status ∷ [])) member_is_name [] words
    (words-none of_reset needed_by_reset 1 words e)

pub reset-name : (words : List Word) → verb_fault (Some verb.Reset) words ≡ None → HasName keyword.Cfstruct words
reset-name words e =
    named of_reset 1 keyword.Cfstruct is_name structure-known structure_is_name [] words (words-none of_reset needed_by_reset 1 words e)

pub display-name : (word : Word) (words : List Word) → object_fault (Some object.Smds) word words ≡ None → HasName keyword.Cfstruct words
display-name word words e =
    let allowed : List Keyword = keyword.Cfstruct ∷ [] in
    let behind = (neither (value_fault 1 form.AllMembers word.value) (shown_fault object.Smds words) e).1 in
    named allowed 2 keyword.Cfstruct is_name (first-known keyword.Cfstruct []) structure_is_name [] words
    (words-none allowed (required.Cfstruct ∷ []) 2 words behind)
