use Rattle.std.proofs.Common.{ℕ, Bool, List, length, get_or, ap, sym, ◌∙◌}
use Rattle.std.proofs.lemmas.List.{length-replicate}
use Rattle.qsg_dataset.specs.Contents.{Contents}
use Rattle.qsg_dataset.proofs.Blocks.{if_none, if_some, read_rest}
use Rattle.qsg_dataset.proofs.data_set.DataSet.load_map.Goals as goal
use Rattle.qsg_dataset.proofs.data_set.DataSet.load_map.Goals.{then-gate_open, else-gate_open}

pub returns-clause-map : goal.returns-clause-map
returns-clause-map g c =
    let count = ap (λ (l : List Bool). length l) c.in_ok-free.ensures ∙ length-replicate _ _ ∙ ap (λ (s : Contents). s.blocks) c.self.view_is in
    let read = c.in_ok-read_header.ensures.read in
    elim c.if-gate_open.branch [
      | then-gate_open w ↦ rw w.map-is (if_some w.saved_map-map.result
          (λ used size spelled told. record {
            opened = λ zero. w.if-gate_open.true (ap (λ (l : List ℕ). get_or l 0 0) (read told) ∙ zero);
            size = size ∙ count;
            spelled = sym (read_rest c.args.self.now.bytes _ (read told)) ∙ spelled;
          })
          w.saved_map-map.ensures.size w.saved_map-map.ensures.spelled)
      | else-gate_open w ↦ rw w.map-is tt
    ]

pub returns-clause-none : goal.returns-clause-none
returns-clause-none g c =
    let count = ap (λ (l : List Bool). length l) c.in_ok-free.ensures ∙ length-replicate _ _ ∙ ap (λ (s : Contents). s.blocks) c.self.view_is in
    let read = c.in_ok-read_header.ensures.read in
    elim c.if-gate_open.branch [
      | then-gate_open w ↦ rw w.map-is (if_none w.saved_map-map.result
          (λ none told used saved. none used (saved.size ∙ sym count) (read_rest c.args.self.now.bytes _ (read told) ∙ saved.spelled))
          w.saved_map-map.ensures.none)
      | else-gate_open w ↦ rw w.map-is (λ told used saved. saved.opened (ap (λ (l : List ℕ). get_or l 0 0) (sym (read told)) ∙ w.if-gate_open.false))
    ]
