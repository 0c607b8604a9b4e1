-- lists of entries: what they cost, look-ups, and the two ways in which they change
use Rattle.std.specs.Prelude.{◌≡◌, ℕ, ◌+◌, ◌-◌, ◌/◌, ◌<◌, Bool, true, false, not, ◌==◌, ◌&&◌, ◌||◌, List, [], ◌∷◌, length, Option, Some, None, if◌then◌else◌, nat_eq, nat_lt, count_by, sum_by, find, IfSome}
use Rattle.std.specs.List.{list_all, AllByRecursion, cons_option}
use Rattle.std.specs.Cmp.Lexicographic.{pointwise}
use Rattle.qsg_num.specs.declared.seats.Member.{Member}
use Rattle.qsg_num.specs.declared.ids.Incarnation.{Incarnation}
use Rattle.qsg_num.specs.declared.ids.EntryId.{EntryId}
use Rattle.qsg_num.specs.declared.words.Delivery.{Delivery}
use Rattle.qsg_num.specs.declared.words.Delivery.TheVariants.{Priority, Fifo}
use Rattle.qsg_num.specs.Seats.{member_number, priority_number}
use Rattle.qsg_lists.specs.declared.parts.Place.{Place}
use Rattle.qsg_lists.specs.declared.parts.Place.TheVariants.{Inline, Offloaded}
use Rattle.qsg_lists.specs.declared.parts.Entry.{Entry}
use Rattle.qsg_lists.specs.declared.parts.Head.{Head}
use Rattle.qsg_lists.specs.declared.parts.Selector.{Selector}
use Rattle.qsg_lists.specs.Marks.{is_visible, is_cleanup, names_member}

-- the elements of an entry: one, and one for each 256 bytes begun of a body inside; two where the body is outside
abbrev pub cost_of : Place → ℕ
cost_of (Inline body) = 1 + (length body + 255) / 256
cost_of (Offloaded owner blocks length) = 2

-- the elements in use, whatever the marks
abbrev pub used_of : List Entry → ℕ
used_of entries = sum_by (λ e. cost_of e.place) entries

-- names are the same where their bytes are
abbrev pub is_name : List ℕ → List ℕ → Bool
is_name = pointwise nat_eq

-- an entry counts in the depth of its queue until it is removed
abbrev pub counts_in : List ℕ → Entry → Bool
counts_in queue e = not (is_cleanup e.mark) && is_name e.head.queue queue

abbrev pub depth_of : List ℕ → List Entry → ℕ
depth_of queue entries = count_by (counts_in queue) entries

-- the entry has this id
abbrev pub has_id : EntryId → Entry → Bool
has_id id e = e.id.number == id.number

-- the entry of this id
abbrev pub entry_at : EntryId → List Entry → Option Entry
entry_at id entries = find (has_id id) entries

-- the entry's id is above this one
abbrev pub is_above : EntryId → Entry → Bool
is_above id e = nat_lt id.number e.id.number

-- it is above this id, and its mark names this incarnation of the member
abbrev pub is_marked_above : Member → Incarnation → EntryId → Entry → Bool
is_marked_above member incarnation id e = is_above id e && names_member member incarnation e.mark

-- the body is in this owner's data set
abbrev pub is_owned : Member → Place → Bool
is_owned owner (Inline body) = false
is_owned owner (Offloaded other blocks length) = member_number other == member_number owner

-- it is above this id, is removed, and its blocks are this owner's
abbrev pub is_cleanup_above : Member → EntryId → Entry → Bool
is_cleanup_above owner id e = is_above id e && (is_cleanup e.mark && is_owned owner e.place)

-- each entry's id is below the ids of those after it
abbrev pub AreInOrder : List Entry → Type 0
AreInOrder [] = Unit {0}
AreInOrder (e ∷ es) = AllByRecursion (λ (x : Entry). e.id.number < x.id.number) es × AreInOrder es

-- the entry of this id becomes what f makes of it, or goes; each other stays
abbrev pub revise : EntryId → (Entry → Option Entry) → List Entry → List Entry
revise id f [] = []
revise id f (e ∷ es) = if has_id id e then cons_option (f e) es else e ∷ revise id f es

-- what is left of an entry keeps its id
abbrev pub KeepsId : (Entry → Option Entry) → Type 0
KeepsId f = (e : Entry) → IfSome (f e) (λ x. x.id ≡ e.id)

-- an id is the one that is asked for, if one is
abbrev pub is_asked : Option (List ℕ) → List ℕ → Bool
is_asked None id = true
is_asked (Some asked) id = pointwise nat_eq asked id

-- the head has each id that is asked for
abbrev pub meets : Selector → Head → Bool
meets select head = is_asked select.msg_id head.msg_id && is_asked select.correl_id head.correl_id

-- a get may have the entry: it is visible, of that queue, and has what is asked for
abbrev pub waits_for : List ℕ → Selector → Entry → Bool
waits_for queue select e = is_visible e.mark && (is_name e.head.queue queue && meets select e.head)

-- what the order of delivery looks at before the id
abbrev pub turn_of : Delivery → Entry → ℕ
turn_of Priority e = 9 - priority_number e.head.priority
turn_of Fifo e = 0

-- one entry comes before another: by (9 - priority, id), or by id
abbrev pub is_ahead : Delivery → Entry → Entry → Bool
is_ahead order a b = nat_lt (turn_of order a) (turn_of order b) || ((turn_of order a == turn_of order b) && nat_lt a.id.number b.id.number)

-- the entry waits, and none that waits is ahead of it
abbrev pub is_first : List ℕ → Delivery → Selector → List Entry → Entry → Bool
is_first queue order select entries e = waits_for queue select e && list_all (λ x. not (waits_for queue select x && is_ahead order x e)) entries

-- the entry that a get is given
abbrev pub first_of : List ℕ → Delivery → Selector → List Entry → Option Entry
first_of queue order select entries = find (is_first queue order select entries) entries
