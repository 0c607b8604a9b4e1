-- the system task of a member in its place
use Rattle.std.proofs.Common.{◌≡◌, ℕ, ◌+◌, ◌-◌, ◌<◌, List, [], ◌∷◌, ◌++◌, length, map, replicate, slice_index_or, slice_set, Result, Ok, Err, zero, suc, refl, sym, ap, ◌∙◌, arith}
use Rattle.std.specs.Prelude.{OnOk, OnErr}
use Rattle.std.specs.List.{AllByRecursion}
use Rattle.std.proofs.lemmas.List.{get_or-map, get_or-set_same, map-set, length-map, set-get_or}
use Rattle.qsg_num.specs.declared.seats.Member.{Member}
use Rattle.qsg_num.specs.Seats.{member_number}
use Rattle.qsg_peers.specs.declared.peer.Peer.{Peer as Fields}
use Rattle.qsg_peers.specs.Peers.{Peer, new_peer, peer_of, with_peer}
use Rattle.qsg_peers.specs.Rooms.{peer_in, IsReady}

-- what stands at a member's place is its system task
pub held : (m : Member) (k : ℕ) (fs : List Fields) (f : Fields) (seen : List Peer) → k + 1 ≡ member_number m → k < 8 → length fs ≡ 8 → f ≡ slice_index_or fs k f → map peer_in fs ≡ seen → peer_in f ≡ peer_of m seen
held m k fs f seen place within eight is same =
    ap peer_in is
    ∙ sym (get_or-map peer_in fs k f new_peer (omega (arith, within, eight)))
    ∙ ap (λ (n : ℕ). slice_index_or (map peer_in fs) n new_peer) number
    ∙ ap (peer_of m) same
  where
    number : k ≡ member_number m - 1
    number = omega (arith, place)

pub stored : (m : Member) (k : ℕ) (fs : List Fields) (f : Fields) (seen : List Peer) → k + 1 ≡ member_number m → map peer_in fs ≡ seen → map peer_in (slice_set fs k f) ≡ with_peer m (peer_in f) seen
stored m k fs f seen place same =
    map-set peer_in fs k f
    ∙ ap (λ (n : ℕ). slice_set (map peer_in fs) n (peer_in f)) number
    ∙ ap (with_peer m (peer_in f)) same
  where
    number : k ≡ member_number m - 1
    number = omega (arith, place)

pub own : (m : Member) (seen : List Peer) → with_peer m (peer_of m seen) seen ≡ seen
own m seen = set-get_or seen (member_number m - 1) new_peer

-- the one that was put there stands there
pub found : (m : Member) (k : ℕ) (fs : List Fields) (f : Fields) (seen : List Peer) → k + 1 ≡ member_number m → k < 8 → length fs ≡ 8 → map peer_in fs ≡ seen → peer_of m (map peer_in (slice_set fs k f)) ≡ peer_in f
found m k fs f seen place within eight same =
    ap (peer_of m) (map-set peer_in fs k f ∙ ap (λ (n : ℕ). slice_set (map peer_in fs) n (peer_in f)) number)
    ∙ get_or-set_same (map peer_in fs) (member_number m - 1) (peer_in f) new_peer (omega (arith, place, within, eight, length-map fs peer_in))
  where
    number : k ≡ member_number m - 1
    number = omega (arith, place)

-- ---- by how a call ended

pub on_ok : {T E : Type 0} {P Q : Type 0} (r : Result T E) → (P → Q) → OnOk r P → OnOk r Q
on_ok (Ok x) f p = f p
on_ok (Err e) f p = tt

pub on_err : {T E : Type 0} {P Q : Type 0} (r : Result T E) → (P → Q) → OnErr r P → OnErr r Q
on_err (Ok x) f p = tt
on_err (Err e) f p = f p

-- ---- new ones

-- so many system tasks that have done nothing
pub record AreNew (n : ℕ) (fs : List Fields) : Type 0 where
  pub many : length fs ≡ n
  pub new : AllByRecursion (λ (f : Fields). peer_in f ≡ new_peer) fs
  pub ready : AllByRecursion IsReady fs

pub all_pushed : (P : Fields → Type 0) (fs : List Fields) (f : Fields) → AllByRecursion P fs → P f → AllByRecursion P (fs ++ f ∷ [])
all_pushed P [] f all one = (one, tt)
all_pushed P (x ∷ fs) f all one = (all.0, all_pushed P fs f all.1 one)

pub replicated : (n : ℕ) (fs : List Fields) → length fs ≡ n → AllByRecursion (λ (f : Fields). peer_in f ≡ new_peer) fs → map peer_in fs ≡ replicate n new_peer
replicated zero [] many new = refl
replicated zero (f ∷ fs) many new = absurd (omega (arith, many))
replicated (suc n) [] many new = absurd (omega (arith, many))
replicated (suc n) (f ∷ fs) many new = (λ i. new.0 i ∷ replicated n fs (omega (arith, many)) new.1 i)
