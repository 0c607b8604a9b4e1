-- joining pieces behind others
use Rattle.std.proofs.Common.{◌≡◌, ℕ, suc, ◌<◌, List, [], ◌∷◌, ◌++◌, length, drop, get_or, Option, None, Some, refl, sym, ap, subst, ◌∙◌, append_assoc}
use Rattle.std.proofs.lemmas.List.{append-nil, map-append}
use Rattle.std.proofs.Math.Seq.{drop-cons}
use Rattle.qsg_logrec.specs.declared.piece.Part.{Part}
use Rattle.qsg_logrec.specs.declared.piece.Part.TheVariants.{Only, First, Middle, Last}
use Rattle.qsg_logrec.specs.declared.piece.Piece.{Piece}
use Rattle.qsg_logrec.specs.declared.record.LogRecord.{LogRecord}
use Rattle.qsg_logrec.specs.Spelling.{record_text}
use Rattle.qsg_logrec.specs.Cutting.{Joined, go_on, end_with, join_part, join_piece, joined_from}
use Rattle.qsg_logread.specs.declared.joining.Rest.{Rest}
use Rattle.qsg_logread.specs.declared.joining.Rest.TheVariants.{Longer}
use Rattle.qsg_logread.specs.Joining.{gone_on, unfinished, IsEarly}
use Rattle.qsg_logread.specs.Records.{AreRecords, texts_of, Joins, IsFirstBad}

abbrev pub begun_with : Option (List ℕ) → Joined
begun_with begun = record { records = []; begun = begun }

abbrev pub with_front : List (List ℕ) → Joined → Joined
with_front front j = record { records = front ++ j.records; begun = j.begun }

go_on_behind : (front records : List (List ℕ)) (begun : Option (List ℕ)) (bytes : List ℕ) → go_on (front ++ records) begun bytes ≡ with_front front (go_on records begun bytes)
go_on_behind front records None bytes = refl
go_on_behind front records (Some begun) bytes = refl

end_behind : (front records : List (List ℕ)) (begun : Option (List ℕ)) (bytes : List ℕ) → end_with (front ++ records) begun bytes ≡ with_front front (end_with records begun bytes)
end_behind front records None bytes = refl
end_behind front records (Some begun) bytes = ap (λ (l : List (List ℕ)). record { records = l; begun = None }) (append_assoc front records ((begun ++ bytes) ∷ []))

part_behind : (front : List (List ℕ)) (j : Joined) (part : Part) (bytes : List ℕ) → join_part (with_front front j) part bytes ≡ with_front front (join_part j part bytes)
part_behind front j Only bytes = ap (λ (l : List (List ℕ)). record { records = l; begun = None }) (append_assoc front j.records (bytes ∷ []))
part_behind front j First bytes = refl
part_behind front j Middle bytes = go_on_behind front j.records j.begun bytes
part_behind front j Last bytes = end_behind front j.records j.begun bytes

pub joined_behind : (front : List (List ℕ)) (j : Joined) (ps : List Piece) → joined_from (with_front front j) ps ≡ with_front front (joined_from j ps)
joined_behind front j [] = refl
joined_behind front j (p ∷ ps) = ap (λ (k : Joined). joined_from k ps) (part_behind front j p.part p.bytes) ∙ joined_behind front (join_part j p.part p.bytes) ps

pub joined_append : (j : Joined) (ps qs : List Piece) → joined_from j (ps ++ qs) ≡ joined_from (joined_from j ps) qs
joined_append j [] qs = refl
joined_append j (p ∷ ps) qs = joined_append (join_piece j p) ps qs

-- pieces behind records that are whole
pub joined_after : (texts : List (List ℕ)) (begun : Option (List ℕ)) (ps : List Piece) → joined_from (record { records = texts; begun = begun }) ps ≡ with_front texts (joined_from (begun_with begun) ps)
joined_after texts begun ps = ap (λ (l : List (List ℕ)). joined_from (record { records = l; begun = begun }) ps) (sym (append-nil texts)) ∙ joined_behind texts (begun_with begun) ps

pub are_append : (rs qs : List LogRecord) → AreRecords rs → AreRecords qs → AreRecords (rs ++ qs)
are_append [] qs are more = more
are_append (r ∷ rs) qs are more = (are.0, are_append rs qs are.1 more)

-- pieces behind pieces
pub joins_on : (begun middle after : Option (List ℕ)) (ps qs : List Piece) (rs more : List LogRecord) → Joins begun ps rs middle → Joins middle qs more after → Joins begun (ps ++ qs) (rs ++ more) after
joins_on begun middle after ps qs rs more a b = record {
  each = are_append rs more a.each b.each;
  joined =
      joined_append (begun_with begun) ps qs
      ∙ ap (λ (k : Joined). joined_from k qs) a.joined
      ∙ joined_after (texts_of rs) middle qs
      ∙ ap (with_front (texts_of rs)) b.joined
      ∙ ap (λ (l : List (List ℕ)). record { records = l; begun = after }) (sym (map-append record_text rs more));
}

-- a bad record stays the first
pub first_bad_stays : (j : Joined) (ps : List Piece) (at : ℕ) → IsFirstBad j.records at → IsFirstBad (joined_from j ps).records at
first_bad_stays j ps at b = record {
  front = b.front;
  bad = b.bad;
  back = b.back ++ (joined_from (begun_with j.begun) ps).records;
  texts_are =
      ap (λ (k : Joined). k.records) (joined_after j.records j.begun ps)
      ∙ ap (λ (l : List (List ℕ)). l ++ (joined_from (begun_with j.begun) ps).records) b.texts_are
      ∙ append_assoc (texts_of b.front) (b.bad ∷ b.back) (joined_from (begun_with j.begun) ps).records;
  each = b.each;
  is_bad = b.is_bad;
}

-- ---- a loop over the pieces of a page

pub record IsReadSoFar (old : Option (List ℕ)) (pieces : List Piece) (at : ℕ) (records : List LogRecord) (rest : Rest) : Type 0 where
  pub goes : joined_from (record { records = texts_of records; begun = unfinished old rest }) (drop at pieces) ≡ joined_from (begun_with old) pieces
  pub each : AreRecords records
  pub early : IsEarly rest records

none_longer : (old : Option (List ℕ)) → gone_on old [] ≡ old
none_longer None = refl
none_longer (Some begun) = ap Some (append-nil begun)

pub read_none : (old : Option (List ℕ)) (pieces : List Piece) (rest : Rest) → rest ≡ Longer [] → IsReadSoFar old pieces 0 [] rest
read_none old pieces rest is = record {
  goes = ap (λ (b : Option (List ℕ)). joined_from (begun_with b) pieces) (ap (unfinished old) is ∙ none_longer old);
  each = tt;
  early = subst (λ (r : Rest). IsEarly r []) (sym is) refl;
}

-- what a piece is joined to, and then the pieces behind it
pub goes_by : (old : Option (List ℕ)) (pieces : List Piece) (at : ℕ) (records : List LogRecord) (rest : Rest) (p : Piece) → IsReadSoFar old pieces at records rest → at < length pieces → p ≡ get_or pieces at p
    → joined_from (join_piece (record { records = texts_of records; begun = unfinished old rest }) p) (drop (suc at) pieces) ≡ joined_from (begun_with old) pieces
goes_by old pieces at records rest p far below is =
    let j : Joined = record { records = texts_of records; begun = unfinished old rest } in
    ap (λ (q : Piece). joined_from (join_piece j q) (drop (suc at) pieces)) is
    ∙ ap (joined_from j) (sym (drop-cons pieces at p below))
    ∙ far.goes

pub bad_by : (old : Option (List ℕ)) (pieces : List Piece) (at : ℕ) (records : List LogRecord) (rest : Rest) (p : Piece) (place : ℕ) → IsReadSoFar old pieces at records rest → at < length pieces → p ≡ get_or pieces at p
    → IsFirstBad (join_piece (record { records = texts_of records; begun = unfinished old rest }) p).records place → IsFirstBad (joined_from (begun_with old) pieces).records place
bad_by old pieces at records rest p place far below is bad =
    subst (λ (j : Joined). IsFirstBad j.records place) (goes_by old pieces at records rest p far below is)
    (first_bad_stays (join_piece (record { records = texts_of records; begun = unfinished old rest }) p) (drop (suc at) pieces) place bad)
