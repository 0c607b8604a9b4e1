-- the steps that a run has made
use Rattle.std.proofs.Common.{◌≡◌, ℕ, ◌<◌, ◌≤◌, inl, inr, List, [], ◌∷◌, ◌++◌, length, refl, sym, subst, arith}
use Rattle.qsg_num.specs.declared.ids.Actor.{Actor}
use Rattle.qsg_schedule.specs.Course.{Course, listed, seeded, due, pick, rest, pick_of, rest_of, drawn, actor_number}
use Rattle.qsg_step.specs.declared.step.Step.TheVariants.{Moved}
use Rattle.qsg_step.specs.States.{State}
use Rattle.qsg_step.specs.Steps.{IsStep}
use Rattle.qsg_drive.specs.Quiet.{IsQuiet, Leads}
use Rattle.qsg_drive.specs.Runs.{Made, Follows, IsPicked, IsThrough, IsRun}
use Rattle.qsg_drive.specs.Turns.{IsTurn}
use Rattle.qsg_drive.proofs.Rounds.{all_quiet}

-- one step more
follows_more : (actors : List Actor) (c : Course) (s : State) (path : List Made) (later : Course) (now : State) (m : Made) → Follows actors c s path later now
    → IsPicked (pick later) actors now m → IsStep m.actor now m.step m.state → Follows actors c s (path ++ m ∷ []) (rest later) m.state
follows_more actors c s [] later now m h picked made = (
  subst (λ (x : State). IsPicked (pick c) actors x m) h.1 (subst (λ (d : Course). IsPicked (pick d) actors now m) h.0 picked),
  subst (λ (x : State). IsStep m.actor x m.step m.state) h.1 made,
  (subst (λ (d : Course). rest later ≡ rest d) h.0 refl, refl),
)
follows_more actors c s (x ∷ path) later now m h picked made = (h.0, h.1, follows_more actors (rest c) x.state path later now m h.2 picked made)

-- a path that one step more leads on
abbrev LeadsOn : List Actor → Course → State → Course → State → Type 0
LeadsOn actors course s c now = (m : Made) → IsPicked (pick c) actors now m → IsStep m.actor now m.step m.state → (path : List Made) × Follows actors course s path (rest c) m.state

at_step : (actors : List Actor) (course : Course) (s : State) (after : ℕ) (later : Course) (r : State) → ((path : List Made) × Follows actors course s path later r)
    → (0 < after → IsThrough later) → Leads actors course s after later r
at_step actors course s after later r p through = record { path = p.0; later = later; follows = p.1; same = λ less. refl; through = through }

leads_listed : (actors : List Actor) (course : Course) (s : State) (lines : List (Actor × ℕ)) (all : List Actor) (round quiet : ℕ) (now : State) (after : ℕ) (r : State)
    → ((m : Made) → IsPicked (pick_of lines all round) actors now m → IsStep m.actor now m.step m.state → (path : List Made) × Follows actors course s path (rest_of lines all round) m.state)
    → IsTurn (pick_of lines all round) actors quiet now after r → Leads actors course s after (rest_of lines all round) r
leads_listed actors course s [] all round quiet now after r on (inl h) =
    at_step actors course s after (rest_of [] all round) r (on (record { actor = actor_number all round; step = Moved; state = r }) refl h.1) (λ some. refl)
leads_listed actors course s [] all round quiet now after r on (inr h) =
    at_step actors course s after (rest_of [] all round) r (on (record { actor = actor_number all round; step = h.still.step; state = r }) refl (subst (λ (x : State). IsStep (actor_number all round) now h.still.step x) (sym h.same) h.still.made)) (λ some. refl)
leads_listed actors course s (line ∷ lines) all round quiet now after r on h =
    at_step actors course s after (rest_of (line ∷ lines) all round) r (on (record { actor = line.0; step = h.1.step; state = r }) refl h.1.made) (λ some. absurd (omega (arith, some, h.0)))

leads_on : (actors : List Actor) (course : Course) (s : State) (c : Course) (quiet : ℕ) (now : State) (after : ℕ) (r : State) → (path : List Made) → Follows actors course s path c now
    → IsTurn (pick c) actors quiet now after r → Leads actors course s after (rest c) r
leads_on actors course s (listed turns all round) quiet now after r path follows turn =
    leads_listed actors course s (due turns) all round quiet now after r
    (λ m picked made. (path ++ m ∷ [], follows_more actors course s path (listed turns all round) now m follows picked made)) turn
leads_on actors course s (seeded n all) quiet now after r path follows (inl h) =
    let m : Made = record { actor = h.1.who; step = Moved; state = r } in
    at_step actors course s after (seeded (drawn n) all) r (path ++ m ∷ [], follows_more actors course s path (seeded n all) now m follows (refl, h.1.first) h.1.made) (λ some. tt)
leads_on actors course s (seeded n all) quiet now after r path follows (inr h) = record {
  path = path;
  later = seeded n all;
  follows = subst (λ (x : State). Follows actors course s path (seeded n all) x) (sym h.same) follows;
  same = λ less. absurd (omega (arith, less, h.counted));
  through = λ some. tt;
}

pub leads_after : (actors : List Actor) (course : Course) (s : State) (c : Course) (quiet : ℕ) (now : State) (after : ℕ) (r : State) → quiet < length actors
    → Leads actors course s quiet c now → IsTurn (pick c) actors quiet now after r → Leads actors course s after (rest c) r
leads_after actors course s c quiet now after r less leads turn =
    leads_on actors course s c quiet now after r leads.path (subst (λ (d : Course). Follows actors course s leads.path d now) (sym (leads.same less)) leads.follows) turn

pub leads_first : (actors : List Actor) (c : Course) (s : State) → Leads actors c s 0 c s
leads_first actors c s = record { path = []; later = c; follows = (refl, refl); same = λ less. refl; through = λ some. absurd (omega (arith, some)) }

pub is_run : (actors : List Actor) (course : Course) (s : State) (c : Course) (quiet : ℕ) (r : State) → 0 < length actors → length actors ≤ quiet
    → IsQuiet actors c quiet r → Leads actors course s quiet c r → (path : List Made) × IsRun actors course s path r
is_run actors course s c quiet r some full q leads =
    (leads.path, record { later = leads.later; follows = leads.follows; through = leads.through (omega (arith, some, full)); still = all_quiet actors c quiet r some full q })
