-- bytes are the script of at most one plan, or have at most one first fault
use Rattle.std.proofs.Common.{◌≡◌, ℕ, List, [], ◌∷◌, Result, Ok, Err, ap, sym, subst, ◌∙◌, inl, inr, arith}
use Rattle.std.specs.Prelude.{IfOk, IfErr}
use Rattle.qsg_lines.specs.declared.items.Item.{Item}
use Rattle.qsg_lines.specs.declared.items.LineFault.{LineFault}
use Rattle.qsg_lines.specs.Items.{script_of}
use Rattle.qsg_objects.specs.declared.plans.Plan.{Plan}
use Rattle.qsg_draft.specs.Contents.{Contents, nothing_read}
use Rattle.qsg_draft.specs.Plans.{plan_of}
use Rattle.qsg_grammar.specs.declared.whys.Why.{Why}
use Rattle.qsg_statement.specs.declared.statements.Statement.{Statement}
use Rattle.qsg_statement.specs.Reading.{IsStatement, IsWhy}
use Rattle.qsg_statement.specs.Taking.{taken}
use Rattle.qsg_script.specs.declared.faults.ScriptFault.{ScriptFault}
use Rattle.qsg_script.specs.declared.faults.ScriptError.{ScriptError}
use Rattle.qsg_script.specs.declared.faults.ScriptError.TheVariants.{Fault, NoMemory}
use Rattle.qsg_script.specs.Script.{Takes, TakesAll, IsFaultOf, IsFaultAmong, IsWhyOf, IsPlan, IsItemAtFault, IsFirstFault, too_large, at_item, without_end, Says, Gives}
use Rattle.qsg_script.proofs.Taken.{among}

-- A text says one thing behind what was read.
pub record SaysOneThing : Type 0 where
  pub one_statement : (c : Contents) (text : List ℕ) (a b : Statement) → IsStatement c text a → IsStatement c text b → a ≡ b
  pub one_fault : (c : Contents) (text : List ℕ) (a b : Why) → IsWhy c text a → IsWhy c text b → a ≡ b
  pub never_both : (c : Contents) (text : List ℕ) (s : Statement) (w : Why) → IsStatement c text s → IsWhy c text w → ⊥

ok-same : {T E : Type 0} (a b : T) → (let x : Result T E = Ok a in let y : Result T E = Ok b in x ≡ y) → a ≡ b
ok-same a b e = cc

fault-same : (a b : ScriptFault) → a.line ≡ b.line → a.why ≡ b.why → a ≡ b
fault-same a b l w = λ i. record { line = l i; why = w i }

-- Items that are taken.

takes-once : SaysOneThing → (c : Contents) (item : Item) (a b : Contents) → Takes c item a → Takes c item b → a ≡ b
takes-once says c item a b s t =
    let same : s.text ≡ t.text = ok-same s.text t.text (sym s.whole ∙ t.whole) in
    let read : IsStatement c t.text s.statement = subst (λ (x : List ℕ). IsStatement c x s.statement) same s.reads in
    let one : s.statement ≡ t.statement = says.one_statement c t.text s.statement t.statement read t.reads in
    s.leads ∙ ap (λ x. taken x c) one ∙ sym t.leads

all-once : SaysOneThing → (items : List Item) (c a b : Contents) → TakesAll c items a → TakesAll c items b → a ≡ b
all-once says [] c a b s t = sym s ∙ t
all-once says (item ∷ items) c a b s t =
    let one : s.0 ≡ t.0 = takes-once says c item s.0 t.0 s.1 t.1 in
    all-once says items t.0 a b (subst (λ (x : Contents). TakesAll x items a) one s.2) t.2

-- Items at fault.

never-both : SaysOneThing → (c : Contents) (item : Item) (next : Contents) (f : ScriptFault) → Takes c item next → IsFaultOf c item f → ⊥
never-both says c item next f t h = says.never_both c t.text t.statement f.why t.reads (subst (λ (x : Result (List ℕ) LineFault). IsWhyOf c x f.why) t.whole h.says)

why-once : SaysOneThing → (c : Contents) (text : Result (List ℕ) LineFault) (v w : Why) → IsWhyOf c text v → IsWhyOf c text w → v ≡ w
why-once says c (Err f) v w a b = a ∙ sym b
why-once says c (Ok text) v w a b = says.one_fault c text v w a b

of-once : SaysOneThing → (c : Contents) (item : Item) (f g : ScriptFault) → IsFaultOf c item f → IsFaultOf c item g → f ≡ g
of-once says c item f g a b = fault-same f g (a.line ∙ sym b.line) (why-once says c item.text f.why g.why a.says b.says)

fault-once : SaysOneThing → (items : List Item) (c : Contents) (f g : ScriptFault) → IsFaultAmong c items f → IsFaultAmong c items g → f ≡ g
fault-once says [] c f g a b = absurd a
fault-once says (item ∷ items) c f g (inl a) (inl b) = of-once says c item f g a b
fault-once says (item ∷ items) c f g (inl a) (inr b) = absurd (never-both says c item b.0 f b.1 a)
fault-once says (item ∷ items) c f g (inr a) (inl b) = absurd (never-both says c item a.0 g a.1 b)
fault-once says (item ∷ items) c f g (inr a) (inr b) =
    let one : a.0 ≡ b.0 = takes-once says c item a.0 b.0 a.1 b.1 in
    fault-once says items b.0 f g (subst (λ (x : Contents). IsFaultAmong x items f) one a.2) b.2

all-or-fault : SaysOneThing → (items : List Item) (c a : Contents) (f : ScriptFault) → TakesAll c items a → IsFaultAmong c items f → ⊥
all-or-fault says [] c a f t h = h
all-or-fault says (item ∷ items) c a f t (inl h) = never-both says c item t.0 f t.1 h
all-or-fault says (item ∷ items) c a f t (inr h) =
    let one : t.0 ≡ h.0 = takes-once says c item t.0 h.0 t.1 h.1 in
    all-or-fault says items h.0 a f (subst (λ (x : Contents). TakesAll x items a) one t.2) h.2

of-script : (bytes : List ℕ) (f : ScriptFault) → IsItemAtFault bytes f → IsFaultAmong nothing_read (script_of bytes).items f
of-script bytes f h = subst (λ (items : List Item). IsFaultAmong nothing_read items f) (sym h.parts) (among h.front h.item h.back nothing_read h.contents f h.takes h.stands)

-- Whole scripts.

pub one-plan : SaysOneThing → (bytes : List ℕ) (a b : Plan) → IsPlan bytes a → IsPlan bytes b → a ≡ b
one-plan says bytes a b p q =
    let one : p.contents ≡ q.contents = all-once says (script_of bytes).items nothing_read p.contents q.contents p.read.takes q.read.takes in
    p.means ∙ ap plan_of one ∙ sym q.means

pub one-fault : SaysOneThing → (bytes : List ℕ) (a b : ScriptFault) → IsFirstFault bytes a → IsFirstFault bytes b → a ≡ b
one-fault says bytes a b (too_large p) (too_large q) = fault-same a b (p.line ∙ sym q.line) (p.says ∙ sym q.says)
one-fault says bytes a b (too_large p) (at_item q) = absurd (omega (arith, p.large, q.small))
one-fault says bytes a b (too_large p) (without_end q) = absurd (omega (arith, p.large, q.small))
one-fault says bytes a b (at_item p) (too_large q) = absurd (omega (arith, q.large, p.small))
one-fault says bytes a b (at_item p) (at_item q) = fault-once says (script_of bytes).items nothing_read a b (of-script bytes a p) (of-script bytes b q)
one-fault says bytes a b (at_item p) (without_end q) = absurd (all-or-fault says (script_of bytes).items nothing_read q.contents a q.takes (of-script bytes a p))
one-fault says bytes a b (without_end p) (too_large q) = absurd (omega (arith, q.large, p.small))
one-fault says bytes a b (without_end p) (at_item q) = absurd (all-or-fault says (script_of bytes).items nothing_read p.contents b p.takes (of-script bytes b q))
one-fault says bytes a b (without_end p) (without_end q) = fault-same a b (p.stands.line ∙ sym q.stands.line) (p.stands.says ∙ sym q.stands.says)

pub plan-or-fault : SaysOneThing → (bytes : List ℕ) (plan : Plan) (fault : ScriptFault) → IsPlan bytes plan → IsFirstFault bytes fault → ⊥
plan-or-fault says bytes plan fault p (too_large h) = omega (arith, h.large, p.read.small)
plan-or-fault says bytes plan fault p (at_item h) = all-or-fault says (script_of bytes).items nothing_read p.contents fault p.read.takes (of-script bytes fault h)
plan-or-fault says bytes plan fault p (without_end h) =
    let one : p.contents ≡ h.contents = all-once says (script_of bytes).items nothing_read p.contents h.contents p.read.takes h.takes in
    h.stands.unended (ap (λ (c : Contents). c.stage) (sym one) ∙ p.read.ended)

-- what an answer is, where the bytes are known to be a plan or at fault
pub gives-plan : SaysOneThing → (bytes : List ℕ) (r : Result Plan ScriptError) → IfOk r (IsPlan bytes) → IfErr r (Says (IsFirstFault bytes)) → (plan : Plan) → IsPlan bytes plan → Gives (Ok plan) r
gives-plan says bytes (Ok p) ok err plan is = ap (λ x. Ok x) (one-plan says bytes plan p is ok)
gives-plan says bytes (Err NoMemory) ok err plan is = tt
gives-plan says bytes (Err (Fault f)) ok err plan is = absurd (plan-or-fault says bytes plan f is err)

pub gives-fault : SaysOneThing → (bytes : List ℕ) (r : Result Plan ScriptError) → IfOk r (IsPlan bytes) → IfErr r (Says (IsFirstFault bytes)) → (fault : ScriptFault) → IsFirstFault bytes fault → Gives (Err fault) r
gives-fault says bytes (Ok p) ok err fault is = absurd (plan-or-fault says bytes p fault ok is)
gives-fault says bytes (Err NoMemory) ok err fault is = tt
gives-fault says bytes (Err (Fault f)) ok err fault is = ap (λ x. Err x) (one-fault says bytes fault f is err)
