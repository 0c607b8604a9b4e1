-- what is printed besides reports. Each line ends with a line feed.
use Rattle.std.specs.Prelude.{ℕ, List, ◌++◌, codes}
use Rattle.std.specs.Fmt.{decimal}
use Rattle.qsg_answers.specs.Answers.{line_end}
use Rattle.qsg_grammar.specs.Whys.{text_of_why}
use Rattle.qsg_script.specs.declared.faults.ScriptFault.{ScriptFault}

abbrev pub usage_text : List ℕ
usage_text = codes "usage: qsg replay [--seed N] / run / check / gen N / soak N" ++ line_end

-- the first fault of a script, with its line
abbrev pub fault_text : ScriptFault → List ℕ
fault_text f = codes "script line " ++ decimal f.line ++ codes ": " ++ text_of_why f.why ++ line_end

abbrev pub read_fault_text : List ℕ
read_fault_text = codes "read fault" ++ line_end

abbrev pub rig_fault_text : List ℕ
rig_fault_text = codes "rig fault" ++ line_end

abbrev pub no_memory_text : List ℕ
no_memory_text = codes "no memory" ++ line_end
