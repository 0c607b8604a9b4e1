-- commits that were noted
use Rattle.std.proofs.Common.{◌≡◌, Bool, true, false, cond, not, ◌||◌, ◌&&◌, ◌==◌, List, [], ◌∷◌, ◌++◌, Option, None, Some, is_some, refl, sym, ap, ◌∙◌, true≢false, eqb-true, eq-eqb}
use Rattle.std.specs.List.{list_any}
use Rattle.std.specs.Map.{lookup}
use Rattle.indexmap.specs.IndexMap.{insert_entry}
use Rattle.qsg_num.specs.declared.ids.UnitName.{UnitName}
use Rattle.qsg_num.specs.declared.seats.StructNo.{StructNo}
use Rattle.qsg_num.specs.Seats.{member_number}
use Rattle.qsg_num.specs.Ids.{same_unit}
use Rattle.qsg_num.proofs.Ranges.{member-same}
use Rattle.qsg_logrec.specs.declared.record.LogRecord.{LogRecord}
use Rattle.qsg_logread.specs.declared.commits.UnitKey.{UnitKey}
use Rattle.qsg_logread.specs.Fed.{Commit, commit_of, later, with_commit, with_record, with_records, is_committed, structures_of, commits_unit, names_of, structures_told}
use Rattle.qsg_logread.specs.Table.{commit_in, commits_in}

-- ---- names of units

both : (a b : Bool) → (a && b) ≡ true → (a ≡ true) × (b ≡ true)
both true b e = (refl, e)
both false b e = absurd (true≢false (sym e))

same_is : (a b : UnitName) → same_unit a b ≡ true → a ≡ b
same_is a b e =
    let p = both (member_number a.member == member_number b.member) ((a.incarnation.number == b.incarnation.number) && (a.seq == b.seq)) e in
    let q = both (a.incarnation.number == b.incarnation.number) (a.seq == b.seq) p.1 in
    let m = member-same a.member b.member (eqb-true _ _ p.0) in
    let i = eqb-true _ _ q.0 in
    let s = eqb-true _ _ q.1 in
    (λ k. record { member = m k; incarnation = record { number = i k }; seq = s k })

same_self : (u : UnitName) → same_unit u u ≡ true
same_self u = rw (eq-eqb (member_number u.member) (member_number u.member) refl, eq-eqb u.incarnation.number u.incarnation.number refl, eq-eqb u.seq u.seq refl) refl

-- ---- tests

or_false : (a : Bool) → (a || false) ≡ a
or_false true = refl
or_false false = refl

or_again : (a r : Bool) → ((a || r) || a) ≡ (a || r)
or_again true r = refl
or_again false true = refl
or_again false false = refl

or_or : (a b c : Bool) → ((a || b) || c) ≡ (a || (b || c))
or_or true b c = refl
or_or false b c = refl

-- ---- a list of commits

committed_with : (u : UnitName) (cs : List Commit) (c : Commit) → is_committed u (with_commit cs c) ≡ (is_committed u cs || same_unit u c.unit)
committed_with u [] c = or_false (same_unit u c.unit)
committed_with u (d ∷ ds) c = by (committed_with u ds c) (same_unit c.unit d.unit) refl
  where
    by : is_committed u (with_commit ds c) ≡ (is_committed u ds || same_unit u c.unit) → (t : Bool) → same_unit c.unit d.unit ≡ t
        → is_committed u (cond t (record { unit = d.unit; structures = later d.structures c.structures } ∷ ds) (d ∷ with_commit ds c)) ≡ ((same_unit u d.unit || is_committed u ds) || same_unit u c.unit)
    by more true e =
        sym (or_again (same_unit u d.unit) (is_committed u ds))
        ∙ ap (λ (v : UnitName). (same_unit u d.unit || is_committed u ds) || same_unit u v) (sym (same_is c.unit d.unit e))
    by more false e =
        ap (λ (r : Bool). same_unit u d.unit || r) more
        ∙ sym (or_or (same_unit u d.unit) (is_committed u ds) (same_unit u c.unit))

committed_by : (u : UnitName) (cs : List Commit) (o : Option Commit)
    → is_committed u (elim o [ None ↦ cs | Some c ↦ with_commit cs c ]) ≡ (is_committed u cs || (elim o [ None ↦ false | Some c ↦ same_unit u c.unit ]))
committed_by u cs None = sym (or_false (is_committed u cs))
committed_by u cs (Some c) = committed_with u cs c

pub committed_records : (u : UnitName) (cs : List Commit) (rs : List LogRecord) → is_committed u (with_records cs rs) ≡ (is_committed u cs || list_any (commits_unit u) rs)
committed_records u cs [] = sym (or_false (is_committed u cs))
committed_records u cs (r ∷ rs) =
    committed_records u (with_record cs r) rs
    ∙ ap (λ (b : Bool). b || list_any (commits_unit u) rs) (committed_by u cs (commit_of r))
    ∙ or_or (is_committed u cs) (commits_unit u r) (list_any (commits_unit u) rs)

later_none : (set : Option (List StructNo)) → later None set ≡ set
later_none None = refl
later_none (Some set) = refl

later_later : (a b c : Option (List StructNo)) → later (later a b) c ≡ later a (later b c)
later_later a b None = refl
later_later a b (Some set) = refl

named_if : Bool → Option (List StructNo) → Option (List StructNo)
named_if b set = cond b set None

structures_with : (u : UnitName) (cs : List Commit) (c : Commit) → structures_of u (with_commit cs c) ≡ later (structures_of u cs) (cond (same_unit u c.unit) c.structures None)
structures_with u [] c = sym (later_none (cond (same_unit u c.unit) c.structures None))
structures_with u (d ∷ ds) c = by (structures_with u ds c) (same_unit c.unit d.unit) refl
  where
    at : (a : Bool) → cond a (later d.structures c.structures) (structures_of u ds) ≡ later (cond a d.structures (structures_of u ds)) (cond a c.structures None)
    at true = refl
    at false = refl

    apart : (s : Bool) → same_unit u c.unit ≡ s → same_unit u d.unit ≡ true → same_unit c.unit d.unit ≡ false → d.structures ≡ later d.structures (cond s c.structures None)
    apart true s a t = absurd (true≢false (sym a ∙ ap (λ (v : UnitName). same_unit v d.unit) (same_is u c.unit s) ∙ t))
    apart false s a t = refl

    below : structures_of u (with_commit ds c) ≡ later (structures_of u ds) (cond (same_unit u c.unit) c.structures None) → (a : Bool) → same_unit u d.unit ≡ a → same_unit c.unit d.unit ≡ false
        → cond a d.structures (structures_of u (with_commit ds c)) ≡ later (cond a d.structures (structures_of u ds)) (cond (same_unit u c.unit) c.structures None)
    below more true a t = apart (same_unit u c.unit) refl a t
    below more false a t = more

    by : structures_of u (with_commit ds c) ≡ later (structures_of u ds) (cond (same_unit u c.unit) c.structures None) → (t : Bool) → same_unit c.unit d.unit ≡ t
        → structures_of u (cond t (record { unit = d.unit; structures = later d.structures c.structures } ∷ ds) (d ∷ with_commit ds c)) ≡ later (cond (same_unit u d.unit) d.structures (structures_of u ds)) (cond (same_unit u c.unit) c.structures None)
    by more true e =
        at (same_unit u d.unit)
        ∙ ap (λ (v : UnitName). later (cond (same_unit u d.unit) d.structures (structures_of u ds)) (cond (same_unit u v) c.structures None)) (sym (same_is c.unit d.unit e))
    by more false e = below more (same_unit u d.unit) refl e

structures_by : (u : UnitName) (cs : List Commit) (o : Option Commit)
    → structures_of u (elim o [ None ↦ cs | Some c ↦ with_commit cs c ]) ≡ later (structures_of u cs) (elim o [ None ↦ None | Some c ↦ cond (same_unit u c.unit) c.structures None ])
structures_by u cs None = refl
structures_by u cs (Some c) = structures_with u cs c

pub structures_records : (u : UnitName) (cs : List Commit) (rs : List LogRecord) → structures_of u (with_records cs rs) ≡ later (structures_of u cs) (structures_told u rs)
structures_records u cs [] = refl
structures_records u cs (r ∷ rs) =
    structures_records u (with_record cs r) rs
    ∙ ap (λ (s : Option (List StructNo)). later s (structures_told u rs)) (structures_by u cs (commit_of r))
    ∙ later_later (structures_of u cs) (names_of u r) (structures_told u rs)

pub structures_new : (u : UnitName) (rs : List LogRecord) → structures_of u (with_records [] rs) ≡ structures_told u rs
structures_new u rs = structures_records u [] rs ∙ later_none (structures_told u rs)

pub records_append : (cs : List Commit) (rs qs : List LogRecord) → with_records cs (rs ++ qs) ≡ with_records (with_records cs rs) qs
records_append cs [] qs = refl
records_append cs (r ∷ rs) qs = records_append (with_record cs r) rs qs

-- ---- a table of commits

abbrev pub Entries : Type 0
Entries = List (UnitKey × Option (List StructNo))

abbrev pub same_key : UnitKey → UnitKey → Bool
same_key a b = same_unit a.unit b.unit

some_or : (b : Bool) (x : Option (List StructNo)) (o : Option (Option (List StructNo))) (r : Bool) → is_some o ≡ r → is_some (cond b (Some x) o) ≡ (b || r)
some_or true x o r e = refl
some_or false x o r e = e

pub has_key : (k : UnitKey) (es : Entries) → is_some (lookup (same_key k) es) ≡ is_committed k.unit (commits_in es)
has_key k [] = refl
has_key k (e ∷ es) = some_or (same_unit k.unit e.0.unit) e.1 (lookup (same_key k) es) (is_committed k.unit (commits_in es)) (has_key k es)

abbrev pub flat : Option (Option (List StructNo)) → Option (List StructNo)
flat None = None
flat (Some set) = set

flat_cond : (b : Bool) (x : Option (List StructNo)) (o : Option (Option (List StructNo))) (s : Option (List StructNo)) → flat o ≡ s → flat (cond b (Some x) o) ≡ cond b x s
flat_cond true x o s e = refl
flat_cond false x o s e = e

pub value_of_key : (k : UnitKey) (es : Entries) → flat (lookup (same_key k) es) ≡ structures_of k.unit (commits_in es)
value_of_key k [] = refl
value_of_key k (e ∷ es) = flat_cond (same_unit k.unit e.0.unit) e.1 (lookup (same_key k) es) (structures_of k.unit (commits_in es)) (value_of_key k es)

insert_some : (es : Entries) (k : UnitKey) (set : List StructNo) → commits_in (insert_entry same_key es k (Some set)) ≡ with_commit (commits_in es) (record { unit = k.unit; structures = Some set })
insert_some [] k set = refl
insert_some (e ∷ es) k set = by (insert_some es k set) (same_unit k.unit e.0.unit)
  where
    by : commits_in (insert_entry same_key es k (Some set)) ≡ with_commit (commits_in es) (record { unit = k.unit; structures = Some set }) → (b : Bool) → commits_in (cond b ((e.0, Some set) ∷ es) (e ∷ insert_entry same_key es k (Some set)))
        ≡ cond b (record { unit = e.0.unit; structures = Some set } ∷ commits_in es) (commit_in e ∷ with_commit (commits_in es) (record { unit = k.unit; structures = Some set }))
    by more true = refl
    by more false = ap (λ (cs : List Commit). commit_in e ∷ cs) more

insert_none : (es : Entries) (k : UnitKey) → is_some (lookup (same_key k) es) ≡ false → commits_in (insert_entry same_key es k None) ≡ with_commit (commits_in es) (record { unit = k.unit; structures = None })
insert_none [] k none = refl
insert_none (e ∷ es) k none = by (insert_none es k) (same_unit k.unit e.0.unit) none
  where
    by : (is_some (lookup (same_key k) es) ≡ false → commits_in (insert_entry same_key es k None) ≡ with_commit (commits_in es) (record { unit = k.unit; structures = None })) → (b : Bool) → is_some (cond b (Some e.1) (lookup (same_key k) es)) ≡ false → commits_in (cond b ((e.0, None) ∷ es) (e ∷ insert_entry same_key es k None))
        ≡ cond b (record { unit = e.0.unit; structures = later e.1 None } ∷ commits_in es) (commit_in e ∷ with_commit (commits_in es) (record { unit = k.unit; structures = None }))
    by more true h = absurd (true≢false h)
    by more false h = ap (λ (cs : List Commit). commit_in e ∷ cs) (more h)

pub keep_none : (es : Entries) (k : UnitKey) → is_some (lookup (same_key k) es) ≡ true → commits_in es ≡ with_commit (commits_in es) (record { unit = k.unit; structures = None })
keep_none [] k some = absurd (true≢false (sym some))
keep_none (e ∷ es) k some = by (keep_none es k) (same_unit k.unit e.0.unit) some
  where
    by : (is_some (lookup (same_key k) es) ≡ true → commits_in es ≡ with_commit (commits_in es) (record { unit = k.unit; structures = None })) → (b : Bool) → is_some (cond b (Some e.1) (lookup (same_key k) es)) ≡ true → commits_in (e ∷ es)
        ≡ cond b (record { unit = e.0.unit; structures = later e.1 None } ∷ commits_in es) (commit_in e ∷ with_commit (commits_in es) (record { unit = k.unit; structures = None }))
    by more true h = refl
    by more false h = ap (λ (cs : List Commit). commit_in e ∷ cs) (more h)

pub insert_noted : (es : Entries) (k : UnitKey) (set : Option (List StructNo)) → (not (is_some set) && is_some (lookup (same_key k) es)) ≡ false → commits_in (insert_entry same_key es k set) ≡ with_commit (commits_in es) (record { unit = k.unit; structures = set })
insert_noted es k None apart = insert_none es k apart
insert_noted es k (Some set) apart = insert_some es k set
