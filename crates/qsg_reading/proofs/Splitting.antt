-- the records of pages, by pages before others; a page that joins isn't refused
use Rattle.std.proofs.Common.{◌≡◌, ℕ, List, [], ◌∷◌, ◌++◌, Option, refl, sym, ap, subst, ◌∙◌}
use Rattle.std.proofs.lemmas.List.{append-nil}
use Rattle.qsg_num.specs.declared.ids.PageNo.{PageNo}
use Rattle.qsg_num.specs.declared.words.LogWhy.{LogWhy}
use Rattle.qsg_num.specs.declared.words.LogWhy.TheVariants.{Device, BadPage, BadRecord}
use Rattle.qsg_logrec.specs.declared.piece.Piece.{Piece}
use Rattle.qsg_logrec.specs.declared.record.LogRecord.{LogRecord}
use Rattle.qsg_logrec.specs.Spelling.{record_text}
use Rattle.qsg_logrec.specs.Cutting.{Joined, joined_from, ArePagesOf, all_pieces}
use Rattle.qsg_logread.specs.Records.{AreRecords, texts_of, Joins, PageJoins, PagesJoin}
use Rattle.qsg_logread.specs.Feeding.{IsFault}
use Rattle.qsg_logread.proofs.Joined.{begun_with, with_front, joined_append, joined_after}
use Rattle.qsg_logread.proofs.Known.{one_page, none_bad}
use Rattle.qsg_unitlog.proofs.Lists.{head_same, tail_same, no_head}
use Rattle.qsg_unitlog.proofs.Pieces.{all_append, parted}

-- records in two parts, by their texts
record Parts (rs : List LogRecord) (front back : List (List ℕ)) : Type 0 where
  pub first : List LogRecord
  pub second : List LogRecord
  pub are : rs ≡ first ++ second
  pub first_are : texts_of first ≡ front
  pub second_are : texts_of second ≡ back

parts_of : (rs : List LogRecord) (front back : List (List ℕ)) → texts_of rs ≡ front ++ back → Parts rs front back
parts_of rs [] back is = record { first = []; second = rs; are = refl; first_are = refl; second_are = is }
parts_of [] (w ∷ front) back is = no_head w (front ++ back) is
parts_of (r ∷ rs) (w ∷ front) back is =
    let p = parts_of rs front back (tail_same (record_text r) w (texts_of rs) (front ++ back) is) in
    let head : record_text r ≡ w = head_same (record_text r) w (texts_of rs) (front ++ back) is in
    record {
      first = r ∷ p.first;
      second = p.second;
      are = ap (λ (l : List LogRecord). r ∷ l) p.are;
      first_are = (λ i. head i ∷ p.first_are i);
      second_are = p.second_are;
    }

are_parts : (rs qs : List LogRecord) → AreRecords (rs ++ qs) → AreRecords rs × AreRecords qs
are_parts [] qs are = (tt, are)
are_parts (r ∷ rs) qs are = let more = are_parts rs qs are.1 in ((are.0, more.0), more.1)

-- pages that join do so in two parts
pub record JoinInParts (begun : Option (List ℕ)) (front back : List (List ℕ)) (rs : List LogRecord) (after : Option (List ℕ)) : Type 0 where
  pub first : List LogRecord
  pub middle : Option (List ℕ)
  pub second : List LogRecord
  pub are : rs ≡ first ++ second
  pub front_joins : PagesJoin begun front first middle
  pub back_joins : PagesJoin middle back second after

pub join_parts : (begun : Option (List ℕ)) (front back : List (List ℕ)) (rs : List LogRecord) (after : Option (List ℕ)) → PagesJoin begun (front ++ back) rs after → JoinInParts begun front back rs after
join_parts begun front back rs after is =
    let p = parted front back is.pieces is.pages_are in
    let j = joined_from (begun_with begun) (all_pieces p.first) in
    let k = joined_from (begun_with j.begun) (all_pieces p.second) in
    let joined : record { records = texts_of rs; begun = after } ≡ with_front j.records k =
    sym is.joins.joined
    ∙ ap (λ (pss : List (List Piece)). joined_from (begun_with begun) (all_pieces pss)) p.same
    ∙ ap (joined_from (begun_with begun)) (all_append p.first p.second)
    ∙ joined_append (begun_with begun) (all_pieces p.first) (all_pieces p.second)
    ∙ joined_after j.records j.begun (all_pieces p.second) in
    let q = parts_of rs j.records k.records (ap (λ (x : Joined). x.records) joined) in
    let each = are_parts q.first q.second (subst AreRecords q.are is.joins.each) in
    record {
      first = q.first;
      middle = j.begun;
      second = q.second;
      are = q.are;
      front_joins = record {
        pieces = p.first;
        pages_are = p.are;
        joins = record { each = each.0; joined = (λ i. record { records = sym q.first_are i; begun = j.begun }) };
      };
      back_joins = record {
        pieces = p.second;
        pages_are = p.others;
        joins = record { each = each.1; joined = (λ i. record { records = sym q.second_are i; begun = sym (ap (λ (x : Joined). x.begun) joined) i }) };
      };
    }

-- a page alone
pub page_joins : (begun : Option (List ℕ)) (body : List ℕ) (rs : List LogRecord) (after : Option (List ℕ)) → PagesJoin begun (body ∷ []) rs after → PageJoins begun body rs after
page_joins begun body rs after is = by is.pieces is.pages_are is.joins
  where
    by : (pss : List (List Piece)) → ArePagesOf pss (body ∷ []) → Joins begun (all_pieces pss) rs after → PageJoins begun body rs after
    by [] are joins = absurd are
    by (ps ∷ []) are joins = record { pieces = ps; page = are.0; joins = subst (λ (l : List Piece). Joins begun l rs after) (append-nil ps) joins }
    by (ps ∷ qs ∷ pss) are joins = absurd are.1

-- such a page isn't refused
pub no_fault : (begun : Option (List ℕ)) (number : PageNo) (body : List ℕ) (rs : List LogRecord) (after : Option (List ℕ)) (why : LogWhy) → PageJoins begun body rs after → IsFault begun number body why → ⊥
no_fault begun number body rs after Device is bad = bad
no_fault begun number body rs after (BadPage page at) is bad = bad.1 (is.pieces, is.page)
no_fault begun number body rs after (BadRecord page at) is bad =
    let has = bad.1 in
    let joins = subst (λ (ps : List Piece). Joins begun ps rs after) (one_page is.pieces has.pieces body is.page has.page) is.joins in
    has.first.is_bad.is_bad (none_bad has.first.front rs has.first.bad has.first.back joins.each (sym (ap (λ (x : Joined). x.records) joins.joined) ∙ has.first.texts_are))
