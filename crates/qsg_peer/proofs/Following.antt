-- the walk of the work follows the log
use Rattle.std.proofs.Common.{◌≡◌, inl, inr, ℕ, ◌<◌, true, List, Option, Some, None, Result, Ok, Err, refl, sym, ap, subst, ◌∙◌, arith}
use Rattle.qsg_num.specs.declared.ids.Incarnation.{Incarnation}
use Rattle.qsg_num.specs.declared.ids.UnitName.{UnitName}
use Rattle.qsg_num.specs.declared.seats.Member.{Member}
use Rattle.qsg_disk.specs.Byte.{Byte}
use Rattle.qsg_logpage.specs.Log.{LogState}
use Rattle.qsg_logrec.specs.declared.record.LogRecord.{LogRecord}
use Rattle.qsg_logread.specs.Fed.{Fed, is_committed}
use Rattle.qsg_repo.specs.Tables.{low_of}
use Rattle.qsg_group.specs.Group.{Log, Run}
use Rattle.qsg_group.specs.Observers.{has_run, runs_from}
use Rattle.qsg_unitlog.specs.Tells.{Tells}
use Rattle.qsg_unitlog.proofs.Steps.{reader_finds}
use Rattle.qsg_logs.specs.Kept.{KeptLog, log_in}
use Rattle.qsg_parts.specs.Owned.{Owned}
use Rattle.qsg_walk.specs.declared.walk.KeptPage.{KeptPage}
use Rattle.qsg_walk.specs.Walks.{Walk, FeedsKept}
use Rattle.qsg_walk.specs.Following.{Follows, HasReadAll}
use Rattle.qsg_walk.proofs.Walking.{begun, fed, read_one}
use Rattle.qsg_peer.specs.declared.phases.FailedLife.{FailedLife}
use Rattle.qsg_peer.specs.declared.phases.NoMemory.{NoMemory}
use Rattle.qsg_peer.specs.declared.phases.PeerTurn.{PeerTurn}
use Rattle.qsg_peer.specs.declared.phases.Phase.{Phase}
use Rattle.qsg_peer.specs.declared.phases.Phase.TheVariants.{At}
use Rattle.qsg_peer.specs.declared.phases.Stage.{Stage}
use Rattle.qsg_peer.specs.declared.phases.Stage.TheVariants.{Read, Connect, Search, Settle, Resolve}
use Rattle.qsg_peer.specs.Works.{Work, IsSoundAt}
use Rattle.qsg_peer.specs.Steps.{Next, first_walk, Reads, after_connect, after_search, after_settle, after_resolve, Acts, GoesOn, NextAt, NextPeer}
use Rattle.qsg_peer.specs.Machine.{IsFollowed, Knows}
use Rattle.qsg_peer.proofs.Leaving.{rest_left}
use Rattle.qsg_peer.proofs.Settling.{same_life}

pub walk_begun : (life : FailedLife) (p : Owned) → IsFollowed life (low_of life.member p.repo).number p (first_walk life p)
walk_begun life p = begun (low_of life.member p.repo).number (log_in life.member p.logs).writer.size (log_in life.member p.logs).bytes

-- what a feed leaves of a walk
pub fed_leaves : (kept : Option KeptPage) (old new : Walk) (records : List LogRecord) → old.kept ≡ kept → FeedsKept kept old records new → (new.kept ≡ None) × (new.left ≡ old.left)
fed_leaves None old new records is feeds = (ap (λ (w : Walk). w.kept) feeds.1 ∙ is, ap (λ (w : Walk). w.left) feeds.1)
fed_leaves (Some kept) old new records is feeds = (ap (λ (w : Walk). w.kept) feeds.rest, ap (λ (w : Walk). w.left) feeds.rest)

walk_is : (next : Next) (turn : PeerTurn) (v : Work) (q : Owned) → record { turn = turn; work = v; parts = q } ≡ next → v.walk ≡ next.work.walk
walk_is next turn v q is = ap (λ (n : Next). n.work.walk) is

read_walk : (life : FailedLife) (first : ℕ) (w : Work) (p : Owned) (turn : PeerTurn) (v : Work) (q : Owned) → 0 < w.walk.left → w.walk.kept ≡ None → Reads life w p turn v q → (log_in life.member p.logs).tells ≡ true
    → IsFollowed life first p w.walk → IsFollowed life first p v.walk
read_walk life first w p turn v q goes none (has, inl failed) tells follows = subst (λ (x : Work). IsFollowed life first p x.walk) (sym failed.work_is) follows
read_walk life first w p turn v q goes none (has, inr found) tells follows =
    subst (IsFollowed life first p) (sym found.kept.walk_is)
    (read_one first (log_in life.member p.logs).writer.size (log_in life.member p.logs).bytes w.walk found.kept.found follows none goes (found.kept.page.page tells))

act_walk : (life : FailedLife) (stage : Stage) (first : ℕ) (w : Work) (p : Owned) (result : Result PeerTurn NoMemory) (v : Work) (q : Owned) → IsSoundAt life stage w.walk → w.walk.kept ≡ None → Acts life stage w p result v q
    → (log_in life.member p.logs).tells ≡ true → IsFollowed life first p w.walk → IsFollowed life first p v.walk
act_walk life Read first w p (Ok turn) v q sound none acts tells follows = read_walk life first w p turn v q sound none acts tells follows
act_walk life Read first w p (Err e) v q sound none acts tells follows = absurd acts
act_walk life (Connect s) first w p (Ok turn) v q sound none acts tells follows = subst (IsFollowed life first p) (sym (walk_is (after_connect life s w p) turn v q acts)) follows
act_walk life (Connect s) first w p (Err e) v q sound none acts tells follows = absurd acts
act_walk life (Search connection after) first w p (Ok turn) v q sound none acts tells follows = subst (IsFollowed life first p) (sym (walk_is (after_search life connection after w p) turn v q acts)) follows
act_walk life (Search connection after) first w p (Err e) v q sound none acts tells follows = absurd acts
act_walk life (Settle connection found) first w p (Ok turn) v q sound none acts tells follows = subst (IsFollowed life first p) (sym (walk_is (after_settle life connection found w p) turn v q acts)) follows
act_walk life (Settle connection found) first w p (Err e) v q sound none acts tells follows = absurd acts
act_walk life Resolve first w p (Ok turn) v q sound none acts tells follows = subst (IsFollowed life first p) (sym (walk_is (after_resolve life w p) turn v q acts)) follows
act_walk life Resolve first w p (Err e) v q sound none acts tells follows = absurd acts

pub sound_fed : (life : FailedLife) (stage : Stage) (old new : Walk) → new.kept ≡ None → new.left ≡ old.left → IsSoundAt life stage old → IsSoundAt life stage new
sound_fed life Read old new none left sound = omega (arith, left, sound)
sound_fed life (Connect s) old new none left sound = left ∙ sound
sound_fed life (Search connection after) old new none left sound = (left ∙ sound.0, none)
sound_fed life (Settle connection found) old new none left sound = (left ∙ sound.0, none, sound.2)
sound_fed life Resolve old new none left sound = left ∙ sound

on_walk : (life : FailedLife) (stage : Stage) (first : ℕ) (w : Work) (p : Owned) (result : Result PeerTurn NoMemory) (v : Work) (q : Owned) → IsSoundAt life stage w.walk → GoesOn life stage w p result v q
    → (log_in life.member p.logs).tells ≡ true → IsFollowed life first p w.walk → IsFollowed life first p v.walk
on_walk life stage first w p result v q sound (inl given) tells follows = subst (λ (x : Work). IsFollowed life first p x.walk) (sym given.work_is) follows
on_walk life stage first w p result v q sound (inr (inl lacks)) tells follows = subst (λ (x : Work). IsFollowed life first p x.walk) (sym lacks.work_is) follows
on_walk life stage first w p result v q sound (inr (inr acted)) tells follows =
    let leaves = fed_leaves w.walk.kept w.walk acted.walk acted.records refl acted.fed in
    act_walk life stage first (record w { walk = acted.walk }) p result v q (sound_fed life stage w.walk acted.walk leaves.0 leaves.1 sound) leaves.0 acted.acts tells
    (fed first (log_in life.member p.logs).writer.size (log_in life.member p.logs).bytes w.walk acted.walk acted.records follows acted.fed)

pub walk_goes_on : (skip : List (Member × Incarnation)) (life : FailedLife) (stage : Stage) (first : ℕ) (w : Work) (p : Owned) (result : Result PeerTurn NoMemory) (v : Work) (q : Owned) → w.phase ≡ At life stage → IsSoundAt life stage w.walk
    → NextPeer skip w p result v q → (log_in life.member p.logs).tells ≡ true → IsFollowed life first p w.walk → IsFollowed life first q v.walk
walk_goes_on skip life stage first w p result v q at sound next tells follows =
    let was = on_walk life stage first w p result v q sound (subst (λ (x : Phase). NextAt skip x w p result v q) at next) tells follows in
    let log = (rest_left skip w p result v q next).logs life.member in
    subst (λ (l : List Byte). Follows first (log_in life.member q.logs).writer.size l v.walk) (sym (log.bytes tells))
    (subst (λ (n : ℕ). Follows first n (log_in life.member p.logs).bytes v.walk) (sym (ap (λ (l : KeptLog). l.writer.size) log.rest)) was)

-- ---- what the reader knows then

pub reader_knows : (life : FailedLife) (logs : Member → Log) (log : LogState) (gone : List UnitName) (hand : Option Run) (bytes : List Byte) (reader : Fed) → HasReadAll (logs life.member).low log bytes reader
    → Tells (logs life.member).low log gone (runs_from (logs life.member).low (logs life.member).runs) hand bytes → Knows life reader logs
reader_knows life logs log gone hand bytes reader read tells = λ u is.
    subst (λ (m : Member). is_committed u reader.commits ≡ has_run u (runs_from (logs m).low (logs m).runs)) (sym (same_life life u is).0)
    (reader_finds (logs life.member).low log gone (runs_from (logs life.member).low (logs life.member).runs) hand bytes _ read.records reader u tells refl read.fed)
