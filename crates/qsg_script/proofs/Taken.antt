-- the items of a script that were taken, and the first at fault
use Rattle.std.proofs.Common.{◌≡◌, ℕ, List, [], ◌∷◌, ◌++◌, length, ◌≤◌, Result, Ok, Err, refl, ap, sym, subst, ◌∙◌, inl, inr}
use Rattle.std.specs.Prelude.{IfOk, IfErr}
use Rattle.qsg_lines.specs.declared.items.Item.{Item}
use Rattle.qsg_lines.specs.Items.{script_of}
use Rattle.qsg_objects.specs.declared.plans.Plan.{Plan}
use Rattle.qsg_draft.specs.declared.stages.Stage.TheVariants.{Ended}
use Rattle.qsg_draft.specs.Plans.{plan_of}
use Rattle.qsg_draft.specs.Contents.{Contents, nothing_read}
use Rattle.qsg_script.specs.declared.faults.ScriptFault.{ScriptFault}
use Rattle.qsg_script.specs.declared.faults.ScriptError.{ScriptError}
use Rattle.qsg_script.specs.declared.faults.ScriptError.TheVariants.{Fault, NoMemory}
use Rattle.qsg_script.specs.Script.{TakesAll, IsFaultOf, IsFaultAmong, IsUnended, IsPlan, IsFirstFault, at_item, without_end, Says}

-- Of the items behind what was read, one is at fault behind a front of statements.
pub record IsBehindFront (c : Contents) (items : List Item) (fault : ScriptFault) : Type 0 where
  pub front : List Item
  pub item : Item
  pub back : List Item
  pub parts : items ≡ front ++ item ∷ back
  pub contents : Contents
  pub takes : TakesAll c front contents
  pub stands : IsFaultOf contents item fault

pub behind-front : (items : List Item) (c : Contents) (fault : ScriptFault) → IsFaultAmong c items fault → IsBehindFront c items fault
behind-front [] c fault h = absurd h
behind-front (item ∷ items) c fault (inl h) = record { front = []; item = item; back = items; parts = refl; contents = c; takes = refl; stands = h }
behind-front (item ∷ items) c fault (inr h) =
    let r = behind-front items h.0 fault h.2 in
    record { front = item ∷ r.front; item = r.item; back = r.back; parts = ap (λ xs. item ∷ xs) r.parts; contents = r.contents; takes = (h.0, h.1, r.takes); stands = r.stands }

pub among : (front : List Item) (item : Item) (back : List Item) (c contents : Contents) (fault : ScriptFault) → TakesAll c front contents → IsFaultOf contents item fault → IsFaultAmong c (front ++ item ∷ back) fault
among [] item back c contents fault e h = inl (subst (λ (x : Contents). IsFaultOf x item fault) (sym e) h)
among (x ∷ front) item back c contents fault t h = inr (t.0, t.1, among front item back t.0 contents fault t.2 h)

-- What is read of a whole script is its plan, and the fault of an item is its first.

pub is_plan : (bytes : List ℕ) (c : Contents) (r : Result Plan ScriptError) → length bytes ≤ 4194304 → TakesAll nothing_read (script_of bytes).items c → IfOk r (λ plan. (c.stage ≡ Ended) × (plan ≡ plan_of c)) → IfOk r (IsPlan bytes)
is_plan bytes c (Ok plan) small takes h = record { contents = c; read = record { small = small; takes = takes; ended = h.0 }; means = h.1 }
is_plan bytes c (Err e) small takes h = tt

pub is_unended : (bytes : List ℕ) (c : Contents) (end : ℕ) (r : Result Plan ScriptError) → length bytes ≤ 4194304 → TakesAll nothing_read (script_of bytes).items c → end ≡ (script_of bytes).end → IfErr r (Says (IsUnended c end)) → IfErr r (Says (IsFirstFault bytes))
is_unended bytes c end (Ok plan) small takes e h = tt
is_unended bytes c end (Err NoMemory) small takes e h = tt
is_unended bytes c end (Err (Fault f)) small takes e h =
    without_end (record { small = small; contents = c; takes = takes; stands = record { unended = h.unended; line = h.line ∙ e; says = h.says } })

pub is_at_item : (bytes : List ℕ) (error : ScriptError) → length bytes ≤ 4194304 → Says (IsFaultAmong nothing_read (script_of bytes).items) error → Says (IsFirstFault bytes) error
is_at_item bytes NoMemory small h = tt
is_at_item bytes (Fault f) small h =
    let r = behind-front (script_of bytes).items nothing_read f h in
    at_item (record { small = small; front = r.front; item = r.item; back = r.back; parts = r.parts; contents = r.contents; takes = r.takes; stands = r.stands })
