-- the texts of numbers, bytes, ids and bodies
use Rattle.std.specs.Prelude.{ℕ, ◌-◌, Bool, true, false, nat_le, ◌==◌, if◌then◌else◌, List, ◌++◌, length, take, drop, codes}
use Rattle.std.specs.List.{list_all}
use Rattle.std.specs.Fmt.{decimal}
use Rattle.hex.specs.Hex.{encode_lower}
use Rattle.qsg_num.specs.declared.ids.EntryId.{EntryId}
use Rattle.qsg_num.specs.Ids.{epoch_of, seq_of}

-- an id is its epoch, a dot and its number
abbrev pub id_text : EntryId → List ℕ
id_text id = decimal (epoch_of id) ++ codes "." ++ decimal (seq_of id)

-- an identifier is its bytes, or a dash where all are zero
abbrev pub identifier_text : List ℕ → List ℕ
identifier_text bytes = if list_all (λ b. b == 0) bytes then codes "-" else encode_lower bytes

-- the bytes of a body; of one that is longer than 32, the first and the last 16
abbrev pub ends_text : List ℕ → List ℕ
ends_text body = if nat_le (length body) 32
    then encode_lower body
    else encode_lower (take 16 body) ++ codes "-" ++ encode_lower (drop (length body - 16) body)

-- a body is its length, and its bytes where it has any
unfoldable pub body_text : List ℕ → List ℕ
body_text body = if length body == 0
    then decimal (length body)
    else decimal (length body) ++ codes " " ++ ends_text body

abbrev pub flag_text : Bool → List ℕ
flag_text true = codes "1"
flag_text false = codes "0"
