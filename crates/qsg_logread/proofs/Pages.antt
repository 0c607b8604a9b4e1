-- pages behind pages
use Rattle.std.proofs.Common.{◌≡◌, ℕ, ◌+◌, ◌/◌, List, [], ◌∷◌, ◌++◌, length, Option, refl, sym, ap, subst, ◌∙◌, append_assoc, arith}
use Rattle.std.proofs.lemmas.List.{append-nil}
use Rattle.std.specs.Int.{w32, to_be_bytes}
use Rattle.qsg_logrec.specs.declared.piece.Piece.{Piece}
use Rattle.qsg_logrec.specs.declared.record.LogRecord.{LogRecord}
use Rattle.qsg_logrec.specs.Pages.{page_text, area_text, IsPageOf}
use Rattle.qsg_logrec.specs.Cutting.{ArePagesOf, all_pieces}
use Rattle.qsg_logpage.specs.Page.{with_lap}
use Rattle.qsg_logread.specs.Records.{Joins, PageJoins, PagesJoin}
use Rattle.qsg_logread.specs.Logs.{lapped}
use Rattle.qsg_logread.proofs.Joined.{joins_on}

all_append : (pss qss : List (List Piece)) → all_pieces (pss ++ qss) ≡ all_pieces pss ++ all_pieces qss
all_append [] qss = refl
all_append (ps ∷ pss) qss = ap (λ (l : List Piece). ps ++ l) (all_append pss qss) ∙ sym (append_assoc ps (all_pieces pss) (all_pieces qss))

are_append : (pss qss : List (List Piece)) (pages others : List (List ℕ)) → ArePagesOf pss pages → ArePagesOf qss others → ArePagesOf (pss ++ qss) (pages ++ others)
are_append [] qss [] others are more = more
are_append [] qss (b ∷ bs) others are more = absurd are
are_append (ps ∷ pss) qss [] others are more = absurd are
are_append (ps ∷ pss) qss (b ∷ bs) others are more = (are.0, are_append pss qss bs others are.1 more)

pub pages_append : (begun middle after : Option (List ℕ)) (pages others : List (List ℕ)) (rs more : List LogRecord)
    → PagesJoin begun pages rs middle → PagesJoin middle others more after → PagesJoin begun (pages ++ others) (rs ++ more) after
pages_append begun middle after pages others rs more a b = record {
  pieces = a.pieces ++ b.pieces;
  pages_are = are_append a.pieces b.pieces pages others a.pages_are b.pages_are;
  joins = subst (λ (l : List Piece). Joins begun l (rs ++ more) after) (sym (all_append a.pieces b.pieces)) (joins_on begun middle after (all_pieces a.pieces) (all_pieces b.pieces) rs more a.joins b.joins);
}

pub one_page_joins : (begun after : Option (List ℕ)) (body : List ℕ) (rs : List LogRecord) → PageJoins begun body rs after → PagesJoin begun (body ∷ []) rs after
one_page_joins begun after body rs is = record {
  pieces = is.pieces ∷ [];
  pages_are = (is.page, tt);
  joins = subst (λ (l : List Piece). Joins begun l rs after) (sym (append-nil is.pieces)) is.joins;
}

pub pages_on : (begun middle after : Option (List ℕ)) (pages : List (List ℕ)) (body : List ℕ) (rs more : List LogRecord)
    → PagesJoin begun pages rs middle → PageJoins middle body more after → PagesJoin begun (pages ++ body ∷ []) (rs ++ more) after
pages_on begun middle after pages body rs more a b = pages_append begun middle after pages (body ∷ []) rs more a (one_page_joins middle after body more b)

-- ---- laps

lap_put : (version lap : ℕ) (old area : List ℕ) → length old ≡ 4 → with_lap lap (page_text version old area) ≡ page_text version (to_be_bytes w32 lap) area
lap_put version lap [] area four = absurd (omega (arith, four))
lap_put version lap (a ∷ []) area four = absurd (omega (arith, four))
lap_put version lap (a ∷ b ∷ []) area four = absurd (omega (arith, four))
lap_put version lap (a ∷ b ∷ c ∷ []) area four = absurd (omega (arith, four))
lap_put version lap (a ∷ b ∷ c ∷ d ∷ []) area four = refl
lap_put version lap (a ∷ b ∷ c ∷ d ∷ e ∷ old) area four = absurd (omega (arith, four))

pub lapped_page : (lap : ℕ) (ps : List Piece) (body : List ℕ) → IsPageOf ps body → IsPageOf ps (with_lap lap body)
lapped_page lap ps body is = record {
  version = is.version;
  version_is = is.version_is;
  lap = to_be_bytes w32 lap;
  lap_length = refl;
  each = is.each;
  some = is.some;
  fits = is.fits;
  body_is = ap (with_lap lap) is.body_is ∙ lap_put is.version lap is.lap (area_text ps) is.lap_length;
}

lapped_pages : (size first : ℕ) (pss : List (List Piece)) (pages : List (List ℕ)) → ArePagesOf pss pages → ArePagesOf pss (lapped size first pages)
lapped_pages size first [] [] are = tt
lapped_pages size first [] (b ∷ bs) are = absurd are
lapped_pages size first (ps ∷ pss) [] are = absurd are
lapped_pages size first (ps ∷ pss) (b ∷ bs) are = (lapped_page (first / size) ps b are.0, lapped_pages size (first + 1) pss bs are.1)

pub lapped_join : (size first : ℕ) (begun after : Option (List ℕ)) (pages : List (List ℕ)) (rs : List LogRecord) → PagesJoin begun pages rs after → PagesJoin begun (lapped size first pages) rs after
lapped_join size first begun after pages rs a = record { pieces = a.pieces; pages_are = lapped_pages size first a.pieces pages a.pages_are; joins = a.joins }
