-- the page that is kept is what a refusal is about
use Rattle.std.proofs.Common.{◌≡◌, Some, sym, subst}
use Rattle.qsg_num.specs.declared.words.LogWhy.{LogWhy}
use Rattle.qsg_logread.specs.Feeding.{IsFault}
use Rattle.qsg_walk.specs.declared.walk.KeptPage.{KeptPage}
use Rattle.qsg_walk.specs.Walks.{Walk, IsBad, IsBadKept}

pub bad_kept : (v w : Walk) (kept : KeptPage) (why : LogWhy) → v ≡ w → v.kept ≡ Some kept → IsFault v.reader.begun kept.no kept.page why → IsBad w why
bad_kept v w kept why same is fault = subst (λ (x : Walk). IsBad x why) same (subst (λ k. IsBadKept k v why) (sym is) fault)
