-- what a feed answers
use Rattle.std.proofs.Common.{◌≡◌, ℕ, List, [], ◌∷◌, ◌++◌, Option, None, Result, Err, refl, sym, ap, subst, ◌∙◌}
use Rattle.qsg_num.specs.declared.ids.PageNo.{PageNo}
use Rattle.qsg_logrec.specs.declared.piece.Piece.{Piece}
use Rattle.qsg_logrec.specs.declared.record.LogRecord.{LogRecord}
use Rattle.qsg_logrec.specs.Pages.{IsPageOf}
use Rattle.qsg_logrec.specs.Cutting.{Joined, joined_from}
use Rattle.qsg_num.specs.declared.words.LogWhy.{LogWhy}
use Rattle.qsg_num.specs.declared.words.LogWhy.TheVariants.{Device, BadPage, BadRecord}
use Rattle.qsg_logread.specs.declared.fault.FeedError.{FeedError}
use Rattle.qsg_logread.specs.declared.fault.FeedError.TheVariants.{Fault, NoMemory}
use Rattle.qsg_logread.specs.Records.{AreRecords, texts_of, Joins, PageJoins}
use Rattle.qsg_logread.specs.Fed.{Fed, with_records}
use Rattle.qsg_logread.specs.Feeding.{WasFed, IsReadAs, IsBadPage, IsBadRecord, IsFault}
use Rattle.qsg_logread.proofs.Joined.{begun_with}
use Rattle.qsg_logread.proofs.Known.{one_page, none_bad, same_joins}
use Rattle.qsg_logread.proofs.Noted.{records_append}
use Rattle.qsg_logread.proofs.Pages.{pages_on}

abbrev pub refused : FeedError → Result (List LogRecord) FeedError
refused e = Err e

pub same_error : (a b : FeedError) → refused a ≡ refused b → a ≡ b
same_error a b e = cc

-- a page that joins isn't bad
page_is_good : (begun after : Option (List ℕ)) (number : PageNo) (body : List ℕ) (rs : List LogRecord) (why : LogWhy) → PageJoins begun body rs after → IsBadPage number body why → ⊥
page_is_good begun after number body rs Device is bad = bad
page_is_good begun after number body rs (BadPage page at) is bad = bad.1 (is.pieces, is.page)
page_is_good begun after number body rs (BadRecord page at) is bad = bad

pub page_read_back : (e : FeedError) (begun after : Option (List ℕ)) (number : PageNo) (body : List ℕ) (rs : List LogRecord) → ((why : LogWhy) → e ≡ Fault why → IsBadPage number body why) → PageJoins begun body rs after → IsReadAs rs (refused e)
page_read_back NoMemory begun after number body rs bad is = tt
page_read_back (Fault why) begun after number body rs bad is = page_is_good begun after number body rs why is (bad why refl)

texts_are_good : (texts : List (List ℕ)) (rs : List LogRecord) (number : PageNo) (why : LogWhy) → AreRecords rs → texts ≡ texts_of rs → IsBadRecord number texts why → ⊥
texts_are_good texts rs number Device are same bad = bad
texts_are_good texts rs number (BadPage page at) are same bad = bad
texts_are_good texts rs number (BadRecord page at) are same bad = bad.1.is_bad.is_bad (none_bad bad.1.front rs bad.1.bad bad.1.back are (sym same ∙ bad.1.texts_are))

-- the pieces of this page join so
pub joins_here : (begun after : Option (List ℕ)) (body : List ℕ) (rs : List LogRecord) (ps : List Piece) → IsPageOf ps body → PageJoins begun body rs after → Joins begun ps rs after
joins_here begun after body rs ps page is = subst (λ (qs : List Piece). Joins begun qs rs after) (one_page is.pieces ps body is.page page) is.joins

pub record_read_back : (e : FeedError) (begun after : Option (List ℕ)) (number : PageNo) (body : List ℕ) (rs : List LogRecord) (ps : List Piece) → IsPageOf ps body
    → ((why : LogWhy) → e ≡ Fault why → IsBadRecord number (joined_from (begun_with begun) ps).records why) → PageJoins begun body rs after → IsReadAs rs (refused e)
record_read_back NoMemory begun after number body rs ps page bad is = tt
record_read_back (Fault why) begun after number body rs ps page bad is =
    let here = joins_here begun after body rs ps page is in
    texts_are_good (joined_from (begun_with begun) ps).records rs number why here.each (ap (λ (j : Joined). j.records) here.joined) (bad why refl)

pub page_fault : (begun : Option (List ℕ)) (number : PageNo) (body : List ℕ) (why : LogWhy) → IsBadPage number body why → IsFault begun number body why
page_fault begun number body Device bad = bad
page_fault begun number body (BadPage page at) bad = bad
page_fault begun number body (BadRecord page at) bad = absurd bad

pub record_fault : (begun : Option (List ℕ)) (number : PageNo) (body : List ℕ) (ps : List Piece) (why : LogWhy) → IsPageOf ps body → IsBadRecord number (joined_from (begun_with begun) ps).records why → IsFault begun number body why
record_fault begun number body ps Device page bad = bad
record_fault begun number body ps (BadPage other at) page bad = absurd bad
record_fault begun number body ps (BadRecord other at) page bad = (bad.0, record { pieces = ps; page = page; first = bad.1 })

pub read_back : (begun after other : Option (List ℕ)) (body : List ℕ) (rs qs : List LogRecord) (ps : List Piece) → IsPageOf ps body → Joins begun ps rs after → PageJoins begun body qs other → rs ≡ qs
read_back begun after other body rs qs ps page joins is = (same_joins begun after other ps rs qs joins (joins_here begun other body qs ps page is)).0

-- one page more was fed
pub fed_on : (pages : List (List ℕ)) (body : List ℕ) (rs more : List LogRecord) (old new : Fed) → WasFed pages rs old → PageJoins old.begun body more new.begun → new.commits ≡ with_records old.commits more → WasFed (pages ++ body ∷ []) (rs ++ more) new
fed_on pages body rs more old new was is noted = record {
  joins = pages_on None old.begun new.begun pages body rs more was.joins is;
  commits = noted ∙ ap (λ cs. with_records cs more) was.commits ∙ sym (records_append [] rs more);
}
