-- the plan of a script is workable
use Rattle.std.proofs.Common.{◌≡◌, ℕ, ◌^◌, ◌<◌, List, [], ◌∷◌, length, Option, Some, None, refl, sym, subst, arith}
use Rattle.std.specs.Prelude.{find, map}
use Rattle.std.specs.List.{AllByRecursion}
use Rattle.qsg_lines.specs.Items.{script_of}
use Rattle.qsg_num.specs.declared.seats.StructNo.{StructNo}
use Rattle.qsg_objects.specs.declared.plans.Plan.{Plan}
use Rattle.qsg_objects.specs.declared.plans.Size.{Size}
use Rattle.qsg_objects.specs.declared.registry.Cfstruct.{Cfstruct}
use Rattle.qsg_objects.proofs.Kept.{found-has, length-map}
use Rattle.qsg_draft.specs.Contents.{Contents}
use Rattle.qsg_draft.specs.Lookups.{is_facility}
use Rattle.qsg_draft.specs.Plans.{works_of, plan_of}
use Rattle.qsg_draft.specs.Sizes.{default_size, size_or, size_of}
use Rattle.qsg_script.specs.Script.{IsPlan}
use Rattle.qsg_script.proofs.Order.{works-in-order}
use Rattle.qsg_devices.specs.Shapes.{shapes_of, IsSetSized}
use Rattle.qsg_devices.proofs.Paired.{all_paired}
use Rattle.qsg_sysplex.specs.Plans.{AreRight, AreWithin, directives_of, IsWorkable}
use Rattle.qsg_plans.specs.Plans.{HasElements, IsWorkOf, AreInOrder, IsInRange}
use Rattle.qsg_plans.proofs.Facilities.{sets-sized}
use Rattle.qsg_plans.proofs.Kept.{IsFacilitySized, IsInBounds, script-in-bounds}
use Rattle.qsg_plans.proofs.Lines.{items-below}
use Rattle.qsg_plans.proofs.Objects.{queues-placed, structures-few}
use Rattle.qsg_plans.proofs.Order.{rising-in-order}
use Rattle.qsg_plans.proofs.Sections.{works-all, works-count}

-- the size of a structure is that of its FACILITY, or the default
size-has : (fs : List (StructNo × Size)) (s : Cfstruct) → AllByRecursion IsFacilitySized fs → HasElements (size_of fs s)
size-has fs s each = by (find (is_facility s.number) fs) refl
  where
    by : (o : Option (StructNo × Size)) → find (is_facility s.number) fs ≡ o → HasElements (size_or o (default_size s))
    by None is = (omega arith, omega arith)
    by (Some f) is = found-has IsFacilitySized (is_facility s.number) fs f each is

sizes-have : (fs : List (StructNo × Size)) (ss : List Cfstruct) → AllByRecursion IsFacilitySized fs → AllByRecursion HasElements (map (size_of fs) ss)
sizes-have fs [] each = tt
sizes-have fs (s ∷ ss) each = (size-has fs s each, sizes-have fs ss each)

-- the data sets of each structure have their sizes
sets-right : (n : ℕ) (c : Contents) → IsInBounds n c → AllByRecursion IsSetSized (shapes_of (map (size_of c.facilities) c.objects.structures) c.objects)
sets-right n c kept =
    let each : length (map (size_of c.facilities) c.objects.structures) ≡ length c.objects.structures = length-map (size_of c.facilities) c.objects.structures in
    let few = structures-few c.objects kept.defined in
    subst (AllByRecursion IsSetSized) (sym (all_paired (map (size_of c.facilities) c.objects.structures) c.objects each (omega (arith, few, each)))) (sets-sized c.facilities c.objects.structures kept.sets)

-- what is kept of contents makes their plan workable
contents-workable : (n : ℕ) (c : Contents) → IsInBounds n c → n < 2 ^ 30 → IsWorkable (plan_of c)
contents-workable n c kept low =
    let same = works-count c.sections in
    let all = kept.directives in
    let below : directives_of (works_of c.sections) < 2 ^ 30 = omega (arith, same, all, low) in
    record {
      few = kept.few;
      logs = kept.logs;
      four = let few = structures-few c.objects kept.defined in let each = length-map (size_of c.facilities) c.objects.structures in omega (arith, few, each);
      sizes = length-map (size_of c.facilities) c.objects.structures;
      sets = sets-right n c kept;
      queues = queues-placed c.objects kept.defined;
      right = works-all AreRight c.sections tt kept.right;
      within = works-all (AreWithin (length c.members)) c.sections tt kept.within;
      directives = below;
    }

contents-in-range : (n : ℕ) (c : Contents) → IsInBounds n c → AreInOrder (works_of c.sections) → IsInRange (plan_of c)
contents-in-range n c kept order = record {
  elements = sizes-have c.facilities c.objects.structures kept.elements;
  actors = works-all (IsWorkOf (length c.members)) c.sections tt kept.actors;
  order = order;
}

pub plan_workable : (bytes : List ℕ) (plan : Plan) → IsPlan bytes plan → IsWorkable plan
plan_workable bytes plan p =
    let kept = script-in-bounds (script_of bytes).items p.contents p.read.takes in
    let items = items-below bytes in
    let small = p.read.small in
    let low : length (script_of bytes).items < 2 ^ 30 = omega (arith, items, small) in
    subst (λ (x : Plan). IsWorkable x) (sym p.means) (contents-workable (length (script_of bytes).items) p.contents kept low)

pub plan_in_range : (bytes : List ℕ) (plan : Plan) → IsPlan bytes plan → IsInRange plan
plan_in_range bytes plan p =
    let kept = script-in-bounds (script_of bytes).items p.contents p.read.takes in
    let order : AreInOrder plan.works = rising-in-order 0 plan.works (works-in-order bytes plan p) in
    subst
    (λ (x : Plan). IsInRange x)
    (sym p.means)
    (contents-in-range (length (script_of bytes).items) p.contents kept (subst (λ (x : Plan). AreInOrder x.works) p.means order))
