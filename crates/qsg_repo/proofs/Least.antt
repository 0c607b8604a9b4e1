-- the least of several numbers, one after another
use Rattle.std.proofs.Common.{ℕ, ◌+◌, ◌<◌, ◌≡◌, ◌∙◌, sym, ap, min, cond, List, [], ◌∷◌, ◌++◌, length, get_or, take, map, filter, Option, None}
use Rattle.std.specs.List.{cons_option}
use Rattle.std.proofs.lemmas.Grind.{fold-append}
use Rattle.std.proofs.lemmas.List.{take_more, map-append}
use Rattle.std.proofs.lemmas.List.Elements.{filter_map-append, filter_more}
use Rattle.qsg_num.specs.declared.seats.Member.{Member}
use Rattle.qsg_num.specs.declared.seats.StructNo.{StructNo}
use Rattle.qsg_num.specs.declared.ids.PageNo.{PageNo}
use Rattle.qsg_repo.specs.Tables.{Repository, note_at, recovers}
use Rattle.qsg_repo.specs.Keeping.{least, held_page, held_pages, noted_page}

pub least-append : (first : ℕ) (xs ys : List ℕ) → least first (xs ++ ys) ≡ least (least first xs) ys
least-append first xs ys = fold-append min first xs ys

-- one more hold
pub held-more : (m : Member) (first now : ℕ) (holds : List (Option (List PageNo))) (i : ℕ) → i < length holds → now ≡ least first (held_pages m (take i holds)) → least now (cons_option (held_page m (get_or holds i None)) []) ≡ least first (held_pages m (take (i + 1) holds))
held-more m first now holds i h e =
    let more : held_pages m (take (i + 1) holds) ≡ held_pages m (take i holds) ++ cons_option (held_page m (get_or holds i None)) []
    = ap (held_pages m) (take_more holds i None h) ∙ filter_map-append (held_page m) (take i holds) (get_or holds i None ∷ []) in
    ap (λ n. least n (cons_option (held_page m (get_or holds i None)) [])) e ∙ sym (least-append first (held_pages m (take i holds)) (cons_option (held_page m (get_or holds i None)) [])) ∙ ap (least first) (sym more)

-- one more structure
abbrev noted_some : Member → Repository → List StructNo → List ℕ
noted_some m repo ss = map (λ s. noted_page m (note_at s repo)) (filter (λ s. recovers s repo) ss)

pub noted-more : (m : Member) (repo : Repository) (first now : ℕ) (ss : List StructNo) (i : ℕ) (d : StructNo) → i < length ss → now ≡ least first (noted_some m repo (take i ss)) → least now (map (λ s. noted_page m (note_at s repo)) (cond (recovers (get_or ss i d) repo) (get_or ss i d ∷ []) [])) ≡ least first (noted_some m repo (take (i + 1) ss))
noted-more m repo first now ss i d h e =
    let f : StructNo → ℕ = λ s. noted_page m (note_at s repo) in
    let last : List StructNo = cond (recovers (get_or ss i d) repo) (get_or ss i d ∷ []) [] in
    let more : noted_some m repo (take (i + 1) ss) ≡ noted_some m repo (take i ss) ++ map f last
    = ap (map f) (filter_more (λ s. recovers s repo) ss i d h) ∙ map-append f (filter (λ s. recovers s repo) (take i ss)) last in
    ap (λ n. least n (map f last)) e ∙ sym (least-append first (noted_some m repo (take i ss)) (map f last)) ∙ ap (least first) (sym more)
