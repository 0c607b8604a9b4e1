-- what a course tells, once it has an answer more and the history has gone on
use Rattle.std.proofs.Common.{◌≡◌, ℕ, Bool, true, false, cond, true≢false, List, [], ◌∷◌, ◌++◌, length, Option, Some, None, refl, sym, ap, subst, ◌∙◌, arith, append-nil, length-append}
use Rattle.std.specs.Prelude.{slice_get, fold}
use Rattle.std.specs.List.{zip, AllByRecursion}
use Rattle.std.proofs.lemmas.List.{take-append-le}
use Rattle.std.proofs.lemmas.List.Elements.{Contains-append_left}
use Rattle.std.proofs.lemmas.Option.{none-some, same_Some}
use Rattle.qsg_num.specs.declared.seats.StructNo.{StructNo}
use Rattle.qsg_num.specs.declared.ids.Actor.{Actor}
use Rattle.qsg_num.specs.declared.ids.UnitName.{UnitName}
use Rattle.qsg_msg.specs.declared.message.Message.{Message}
use Rattle.qsg_model.specs.declared.history.Item.{Item}
use Rattle.qsg_model.specs.declared.history.Item.TheVariants.{Unit as UnitOf}
use Rattle.qsg_model.specs.declared.history.Op.{Op}
use Rattle.qsg_model.specs.History.{key}
use Rattle.qsg_model.specs.Past.{held_at}
use Rattle.qsg_model.proofs.Differing.{fold_push}
use Rattle.qsg_objects.specs.declared.directives.Directive.{Directive}
use Rattle.qsg_objects.specs.Registry.{Registry}
use Rattle.qsg_requests.specs.declared.replies.Reply.{Reply}
use Rattle.qsg_requests.specs.declared.replies.Reply.TheVariants as reply
use Rattle.qsg_requests.specs.declared.transcript.Answer.{Answer}
use Rattle.qsg_requests.specs.declared.words.Request.{Request}
use Rattle.qsg_requests.specs.declared.words.Request.TheVariants as request
use Rattle.qsg_agenda.specs.Courses.{Course, next_in, with_answer}
use Rattle.qsg_step.specs.declared.asked.Asked.{Asked}
use Rattle.qsg_step.specs.Asking.{asked}
use Rattle.qsg_answered.specs.Telling.{requested, is_broken, pending_after, with_answered, told, pending}
use Rattle.qsg_answered.specs.Fits.{IsCommitted, IsRead, EndsRequest, EndsUnlessBroken, EndsAsked, AllFit, FitsCourse}

-- ---- one answer more

pub none_told : {A B : Type 0} (ds : List A) → zip {K = A} {X = B} ds [] ≡ []
none_told [] = refl
none_told (d ∷ ds) = refl

zip_push : {A B : Type 0} (ds : List A) (answers : List B) (d : A) (a : B) → slice_get ds (length answers) ≡ Some d → zip ds (answers ++ a ∷ []) ≡ zip ds answers ++ (d, a) ∷ []
zip_push [] answers d a next = absurd (none-some d next)
zip_push (x ∷ ds) [] d a next = (λ i. (same_Some x d next i, a) ∷ none_told ds i)
zip_push (x ∷ ds) (b ∷ answers) d a next = ap (λ l. (x, b) ∷ l) (zip_push ds answers d a next)

pub told_more : (c : Course) (d : Directive) (a : Answer) → next_in c ≡ Some d → told (with_answer a c) ≡ told c ++ (d, a) ∷ []
told_more c d a next = zip_push c.directives c.answers d a next

pub pending_more : (objects : Registry) (c : Course) (d : Directive) (a : Answer) → next_in c ≡ Some d → pending objects (with_answer a c) ≡ pending_after objects (pending objects c) (requested c.actor d) a.reply
pending_more objects c d a next = ap (fold (with_answered objects c.actor) []) (told_more c d a next) ∙ fold_push (with_answered objects c.actor) [] (told c) (d, a)

-- an answer that tells of no operation, and doesn't end a unit, leaves what was pending
pub pending_kept : (objects : Registry) (ops : List (StructNo × Op)) (r : Reply) → pending_after objects ops None r ≡ ops
pending_kept objects ops r = append-nil ops

-- a refusal that isn't 2009 leaves it too
pub kept_refused : {X : Type 0} (ops : List X) (b : Bool) → b ≡ false → cond b [] (ops ++ []) ≡ ops
kept_refused ops true whole = absurd (true≢false whole)
kept_refused ops false whole = append-nil ops

fit_push : (objects : Registry) (h : List Item) (who : Actor) (ops : List (StructNo × Op)) (l : List (Directive × Answer)) (d : Directive) (a : Answer) → AllFit objects h who ops l
    → EndsAsked objects h (fold (with_answered objects who) ops l) (asked who d) a (requested who d) → AllFit objects h who ops (l ++ (d, a) ∷ [])
fit_push objects h who ops [] d a each last = (last, tt)
fit_push objects h who ops ((e, b) ∷ l) d a each last = (each.0, fit_push objects h who (with_answered objects who ops (e, b)) l d a each.1 last)

pub fits_more : (objects : Registry) (h : List Item) (c : Course) (d : Directive) (a : Answer) → next_in c ≡ Some d → FitsCourse objects h c → EndsAsked objects h (pending objects c) (asked c.actor d) a (requested c.actor d) → FitsCourse objects h (with_answer a c)
fits_more objects h c d a next each last = subst (AllFit objects h c.actor []) (sym (told_more c d a next)) (fit_push objects h c.actor [] (told c) d a each last)

pub all_push : {X : Type 0} (P : X → Type 0) (xs : List X) (x : X) → AllByRecursion P xs → P x → AllByRecursion P (xs ++ x ∷ [])
all_push P [] x each last = (last, tt)
all_push P (y ∷ xs) x each last = (each.0, all_push P xs x each.1 last)

-- ---- a longer history

pub committed_longer : (h k : List Item) (u : UnitName) (ops : List (StructNo × Op)) (count : ℕ) → IsCommitted h u ops count → IsCommitted (h ++ k) u ops count
committed_longer h k u ops count is = record { there = Contains-append_left h k (UnitOf u ops) is.there; counted = is.counted }

read_longer : (h k : List Item) (at : ℕ) (m : Message) → IsRead h at m → IsRead (h ++ k) at m
read_longer h k at m is = record {
  past = omega (arith, is.past, length-append h k);
  held = subst (λ l. held_at (key m) l ≡ Some m) (sym (take-append-le at h k is.past)) is.held;
}

ends_longer : (objects : Registry) (h k : List Item) (ops : List (StructNo × Op)) (at : ℕ) (asked : Request) (r : Reply) → EndsRequest objects h ops at asked r → EndsRequest objects (h ++ k) ops at asked r
ends_longer objects h k ops at (request.Get queue select) (reply.Got m) ends = read_longer h k at m ends
ends_longer objects h k ops at request.Commit (reply.Unit (Some u) count) ends = committed_longer h k u ops count ends
ends_longer objects h k ops at request.Commit (reply.Unit None count) ends = ends
ends_longer objects h k ops at (request.Put words) (reply.PutOk id placed) ends = ends
ends_longer objects h k ops at (request.Put words) (reply.Refused reason) ends = ends
ends_longer objects h k ops at (request.Get queue select) (reply.Refused reason) ends = ends
ends_longer objects h k ops at request.Backout (reply.Unit unit count) ends = ends
ends_longer objects h k ops at asked r ends = absurd ends

unless_longer : (objects : Registry) (h k : List Item) (ops : List (StructNo × Op)) (at : ℕ) (request : Request) (r : Reply) (broken : Bool) → EndsUnlessBroken broken objects h ops at request r → EndsUnlessBroken broken objects (h ++ k) ops at request r
unless_longer objects h k ops at request r true ends = ends
unless_longer objects h k ops at request r false ends = ends_longer objects h k ops at request r ends

asked_longer : (objects : Registry) (h k : List Item) (ops : List (StructNo × Op)) (other : Asked) (a : Answer) (request : Option Request) → EndsAsked objects h ops other a request → EndsAsked objects (h ++ k) ops other a request
asked_longer objects h k ops other a None ends = ends
asked_longer objects h k ops other a (Some request) ends = unless_longer objects h k ops a.at request a.reply (is_broken a.reply) ends

all_longer : (objects : Registry) (h k : List Item) (who : Actor) (ops : List (StructNo × Op)) (l : List (Directive × Answer)) → AllFit objects h who ops l → AllFit objects (h ++ k) who ops l
all_longer objects h k who ops [] each = tt
all_longer objects h k who ops ((d, a) ∷ l) each = (asked_longer objects h k ops (asked who d) a (requested who d) each.0, all_longer objects h k who (with_answered objects who ops (d, a)) l each.1)

pub fits_longer : (objects : Registry) (h k : List Item) (c : Course) → FitsCourse objects h c → FitsCourse objects (h ++ k) c
fits_longer objects h k c each = all_longer objects h k c.actor [] (told c) each

-- ---- more answers, whatever they are

zip_grows : {A B : Type 0} (ds : List A) (answers : List B) (a : B) → (more : List (A × B)) × (zip ds (answers ++ a ∷ []) ≡ zip ds answers ++ more)
zip_grows [] answers a = ([], refl)
zip_grows (d ∷ ds) [] a = ((d, a) ∷ zip ds [], refl)
zip_grows (d ∷ ds) (b ∷ answers) a = let rest = zip_grows ds answers a in (rest.0, ap (λ l. (d, b) ∷ l) rest.1)

pub told_grows : (c : Course) (a : Answer) → (more : List (Directive × Answer)) × (told (with_answer a c) ≡ told c ++ more)
told_grows c a = zip_grows c.directives c.answers a
