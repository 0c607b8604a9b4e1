-- pages that commit no unit
use Rattle.std.proofs.Common.{◌≡◌, ℕ, ◌<◌, Bool, true, ◌||◌, List, [], ◌∷◌, ◌++◌, length, Option, None, refl, sym, ap, subst, ◌∙◌}
use Rattle.std.specs.List.{list_all}
use Rattle.std.proofs.lemmas.List.Folds.{list_all-append}
use Rattle.qsg_num.specs.declared.ids.UnitName.{UnitName}
use Rattle.qsg_num.specs.declared.seats.StructNo.{StructNo}
use Rattle.qsg_num.specs.Ids.{same_unit}
use Rattle.qsg_model.specs.declared.history.Op.{Op}
use Rattle.qsg_model.specs.declared.history.Op.TheVariants.{Put, Got}
use Rattle.qsg_logrec.specs.declared.record.LogRecord.{LogRecord}
use Rattle.qsg_logrec.specs.declared.record.LogRecord.TheVariants as r
use Rattle.qsg_logread.specs.Records.{AreRecords, PagesJoin}
use Rattle.qsg_logread.specs.Logs.{lapped}
use Rattle.qsg_logread.proofs.Pages.{pages_append, lapped_join}
use Rattle.qsg_logread.proofs.Runs.{run_joins}
use Rattle.qsg_unitlog.specs.Units.{op_record, op_records, run_records, run_pages, is_named, is_beside}
use Rattle.qsg_unitlog.specs.Tells.{AreBeside}
use Rattle.qsg_unitlog.proofs.Lists.{both, and_true, or_true, same_self}
use Rattle.qsg_unitlog.proofs.Fronts.{first_pages}

-- ---- records

pub all_front : (test : LogRecord → Bool) (rs qs : List LogRecord) → list_all test (rs ++ qs) ≡ true → list_all test rs ≡ true
all_front test rs qs all = (both (list_all test rs) (list_all test qs) (sym (list_all-append test rs qs) ∙ all)).0

pub all_joined : (test : LogRecord → Bool) (rs qs : List LogRecord) → list_all test rs ≡ true → list_all test qs ≡ true → list_all test (rs ++ qs) ≡ true
all_joined test rs qs a b = list_all-append test rs qs ∙ and_true (list_all test rs) (list_all test qs) a b

more_gone : (v : UnitName) (gone : List UnitName) (entry : LogRecord) → is_beside gone entry ≡ true → is_beside (v ∷ gone) entry ≡ true
more_gone v gone (r.Put u m) is = or_true (same_unit u v) (is_named u gone) is
more_gone v gone (r.Got u id s) is = or_true (same_unit u v) (is_named u gone) is
more_gone v gone (r.Commit u) is = is
more_gone v gone (r.BackupStart u s top low) is = is
more_gone v gone (r.BackupEntry u mark m) is = is
more_gone v gone (r.BackupEnd u s count) is = is
more_gone v gone (r.CommitIn u structures) is = is

all_more_gone : (v : UnitName) (gone : List UnitName) (rs : List LogRecord) → list_all (is_beside gone) rs ≡ true → list_all (is_beside (v ∷ gone)) rs ≡ true
all_more_gone v gone [] all = refl
all_more_gone v gone (entry ∷ rs) all =
    let b = both (is_beside gone entry) (list_all (is_beside gone) rs) all in
    and_true (is_beside (v ∷ gone) entry) (list_all (is_beside (v ∷ gone)) rs) (more_gone v gone entry b.0) (all_more_gone v gone rs b.1)

own_named : (u : UnitName) (gone : List UnitName) → is_named u (u ∷ gone) ≡ true
own_named u gone = ap (λ (b : Bool). b || is_named u gone) (same_self u)

op_beside : (u : UnitName) (gone : List UnitName) (w : StructNo × Op) → is_beside (u ∷ gone) (op_record u w) ≡ true
op_beside u gone (s, Put m) = own_named u gone
op_beside u gone (s, Got id) = own_named u gone

pub ops_beside : (u : UnitName) (gone : List UnitName) (told : List (StructNo × Op)) → list_all (is_beside (u ∷ gone)) (op_records u told) ≡ true
ops_beside u gone [] = refl
ops_beside u gone (w ∷ told) = and_true (is_beside (u ∷ gone) (op_record u w)) (list_all (is_beside (u ∷ gone)) (op_records u told)) (op_beside u gone w) (ops_beside u gone told)

-- ---- pages

pub none_beside : (gone : List UnitName) → AreBeside gone []
none_beside gone = λ begun. record { records = []; after = begun; joins = record { pieces = []; pages_are = tt; joins = record { each = tt; joined = refl } }; beside = refl }

pub beside_append : (gone : List UnitName) (pages others : List (List ℕ)) → AreBeside gone pages → AreBeside gone others → AreBeside gone (pages ++ others)
beside_append gone pages others a b = λ begun.
    let x = a begun in
    let y = b x.after in
    record {
      records = x.records ++ y.records;
      after = y.after;
      joins = pages_append begun x.after y.after pages others x.records y.records x.joins y.joins;
      beside = all_joined (is_beside gone) x.records y.records x.beside y.beside;
    }

pub beside_more : (v : UnitName) (gone : List UnitName) (pages : List (List ℕ)) → AreBeside gone pages → AreBeside (v ∷ gone) pages
beside_more v gone pages a = λ begun.
    let x = a begun in
    record { records = x.records; after = x.after; joins = x.joins; beside = all_more_gone v gone x.records x.beside }

beside_lapped : (size first : ℕ) (gone : List UnitName) (pages : List (List ℕ)) → AreBeside gone pages → AreBeside gone (lapped size first pages)
beside_lapped size first gone pages a = λ begun.
    let x = a begun in
    record { records = x.records; after = x.after; joins = lapped_join size first begun x.after pages x.records x.joins; beside = x.beside }

-- the first pages of a unit's run, with laps
pub front_beside : (size first : ℕ) (u : UnitName) (gone : List UnitName) (told : List (StructNo × Op)) (structures : List StructNo) (front back : List (List ℕ))
    → AreRecords (run_records u told structures) → run_pages u told structures ≡ front ++ back → 0 < length back → AreBeside (u ∷ gone) (lapped size first front)
front_beside size first u gone told structures front back are is some = beside_lapped size first (u ∷ gone) front plain
  where
    plain : AreBeside (u ∷ gone) front
    plain = λ begun.
        let f = first_pages (op_records u told) (r.CommitIn u structures) front back are is some begun in
        record {
          records = f.whole;
          after = f.after;
          joins = f.joins;
          beside = all_front (is_beside (u ∷ gone)) f.whole f.others (subst (λ (l : List LogRecord). list_all (is_beside (u ∷ gone)) l ≡ true) f.records_are (ops_beside u gone told));
        }

-- the whole run
pub whole_joins : (u : UnitName) (told : List (StructNo × Op)) (structures : List StructNo) (begun : Option (List ℕ)) → AreRecords (run_records u told structures) → PagesJoin begun (run_pages u told structures) (run_records u told structures) None
whole_joins u [] structures begun are = run_joins begun (r.CommitIn u structures) [] are
whole_joins u (w ∷ told) structures begun are = run_joins begun (op_record u w) (op_records u told ++ r.CommitIn u structures ∷ []) are
