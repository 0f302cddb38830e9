-- WHAT FITS ITS TYPE: numbers within their widths, arrays of their lengths. A contract's
-- lists and numbers may be any; a counterexample is one that code can be given, so each
-- is held to the types of its function's parameters, `fits-T` for the type T.
use Rattle.std.specs.Prelude.{ℕ, ◌+◌, Bool, true, ◌&&◌, List, eqb, leb, ltb, ℤ, nat_abs, length}
use Rattle.std.specs.Borrow.{Bor, MutBor}
use Rattle.lists.specs.Lists.{every}
use Rattle.kinds.specs.Limits.{highest_task, longest_list, major_bytes, longest_minor, most_entries, all_ecbs, most_areas}
use Rattle.kinds.specs.Limits.{name_area}
use Rattle.kinds.specs.declared.numbers.TaskNumber.{TaskNumber}
use Rattle.kinds.specs.declared.numbers.EcbNumber.{EcbNumber}
use Rattle.kinds.specs.declared.numbers.Address.{Address}
use Rattle.kinds.specs.declared.names.Name.{Name}
use Rattle.kinds.specs.declared.names.Wanted.{Wanted}
use Rattle.kinds.specs.declared.names.NameList.{NameList}
use Rattle.kinds.specs.declared.names.NameOffset.{NameOffset}
use Rattle.kinds.specs.declared.names.Pointed.{Pointed}
use Rattle.kinds.specs.declared.names.PointedList.{PointedList}
use Rattle.kinds.specs.declared.names.Slot.{Slot}
use Rattle.kinds.specs.declared.ecbs.Ecb.{Ecb}
use Rattle.kinds.specs.declared.ecbs.EcbList.{EcbList}
use Rattle.kinds.specs.declared.areas.Area.{Area}
use Rattle.kinds.specs.declared.tasks.Task.{Task}
use Rattle.kinds.specs.declared.tasks.Condition.{Condition}
use Rattle.kinds.specs.declared.tasks.Condition.TheVariants.{Free, Ready, ResourceWait, EcbWait, Ended}
use Rattle.std.specs.Prelude.{Option, Some, None}
use Rattle.kinds.specs.Replies.{Verdict}
use Rattle.kinds.specs.declared.requests.Request.{Request}
use Rattle.kinds.specs.declared.requests.Request.TheVariants.{Attach, Detach, End, Abend, Enq, Deq, Wait, Post, Clear}
use Rattle.kinds.specs.declared.requests.Request.TheVariants.{Getmain, Freemain, Dispatch}
use Rattle.kinds.specs.declared.requests.Ret.{Ret}
use Rattle.kinds.specs.declared.requests.DeqRet.{DeqRet}
use Rattle.kinds.specs.declared.replies.Fault.{Fault}
use Rattle.kinds.specs.declared.replies.Reply.{Reply}
use Rattle.kinds.specs.declared.replies.Reply.TheVariants.{Done, Attached, Got, Dispatched, Counted, Four, Refused}
use Rattle.kinds.specs.declared.replies.Reply.TheVariants.{Failed}
use Rattle.namearea.specs.declared.area.NameArea.{NameArea}
use Rattle.namearea.specs.declared.points.Points.{Points}
use Rattle.tasks.specs.declared.TaskTable.{TaskTable}
use Rattle.queue.specs.declared.Queue.{Queue}
use Rattle.queue.specs.declared.offsets.Offsets.{Offsets}
use Rattle.queue.specs.declared.marks.Marks.{Marks}
use Rattle.queue.specs.declared.looks.Flags.{Flags}
use Rattle.resources.specs.declared.codes.Codes.{Codes}
use Rattle.ecbs.specs.declared.EcbTable.{EcbTable}
use Rattle.storage.specs.declared.Storage.{Storage}
use Rattle.tables.specs.declared.AllTables.{AllTables}
use Rattle.services.specs.declared.Tables.{Tables}

-- NUMBERS AND ARRAYS

abbrev pub fits_bool : Bool → Bool
fits_bool b = true

abbrev pub fits_u8 : ℕ → Bool
fits_u8 n = ltb n 256

abbrev pub fits_u16 : ℕ → Bool
fits_u16 n = ltb n 65536

abbrev pub fits_u32 : ℕ → Bool
fits_u32 n = ltb n 4294967296

abbrev pub fits_usize : ℕ → Bool
fits_usize n = ltb n 18446744073709551616

-- the lowest number of the type is left out
abbrev pub fits_i16 : ℤ → Bool
fits_i16 z = leb (nat_abs z) 32767

abbrev array : {A : Type 0} → ℕ → (A → Bool) → List A → Bool
array n p l = eqb (length l) n && every p l

-- bytes that are lent, to be read and to be written
abbrev pub fits_lent : Bor (List ℕ) → Bool
fits_lent r = every fits_u8 r.now

abbrev pub fits_mut_lent : MutBor (List ℕ) → Bool
fits_mut_lent r = every fits_u8 r.now

-- offsets that are lent, to be read and to be written
abbrev pub fits_offsets : Bor (List ℕ) → Bool
fits_offsets r = every fits_u16 r.now

abbrev pub fits_mut_offsets : MutBor (List ℕ) → Bool
fits_mut_offsets r = every fits_u16 r.now

-- one of a kind that is lent, to be read
abbrev pub fits_lent_one : {A : Type 0} → (A → Bool) → Bor A → Bool
fits_lent_one p r = p r.now

-- KINDS

abbrev pub fits-TaskNumber : TaskNumber → Bool
fits-TaskNumber n = fits_u8 n.0

abbrev pub fits-EcbNumber : EcbNumber → Bool
fits-EcbNumber n = fits_u8 n.0

abbrev pub fits-Address : Address → Bool
fits-Address a = fits_u32 a.0

abbrev pub fits-Name : Name → Bool
fits-Name n = array major_bytes fits_u8 n.major && (array longest_minor fits_u8 n.minor && fits_u16 n.length)

abbrev pub fits-Wanted : Wanted → Bool
fits-Wanted w = fits-Name w.name

abbrev pub fits-NameList : NameList → Bool
fits-NameList l = fits_u32 l.count && array longest_list fits-Wanted l.names

abbrev pub fits-NameOffset : NameOffset → Bool
fits-NameOffset o = fits_u16 o.0

abbrev pub fits-Pointed : Pointed → Bool
fits-Pointed w = fits-NameOffset w.name

abbrev pub fits-PointedList : PointedList → Bool
fits-PointedList l = fits_u32 l.count && array longest_list fits-Pointed l.names

abbrev pub fits-Points : Points → Bool
fits-Points p = fits-PointedList p.list && (fits_usize p.from && fits_usize p.end)

abbrev pub fits-Slot : Slot → Bool
fits-Slot s = fits-TaskNumber s.task && fits-NameOffset s.name

abbrev pub fits-Ecb : Ecb → Bool
fits-Ecb e = fits-TaskNumber e.waiter && fits_u32 e.code

abbrev pub fits-EcbList : EcbList → Bool
fits-EcbList l = fits_u32 l.count && array longest_list fits-EcbNumber l.ecbs

abbrev pub fits-Area : Area → Bool
fits-Area a = (fits-Address a.start && fits_u32 a.size) && (fits_u8 a.subpool && fits-TaskNumber a.owner)

abbrev pub fits-Condition : Condition → Bool
fits-Condition Free = true
fits-Condition Ready = true
fits-Condition ResourceWait = true
fits-Condition (EcbWait n) = fits_u8 n
fits-Condition Ended = true

abbrev pub fits-MaybeEcb : Option EcbNumber → Bool
fits-MaybeEcb None = true
fits-MaybeEcb (Some e) = fits-EcbNumber e

abbrev pub fits-Task : Task → Bool
fits-Task x =
    (fits-Condition x.condition && fits-TaskNumber x.mother)
    && (fits_u8 x.limit && (fits_u8 x.dispatching && fits-MaybeEcb x.ecb))

abbrev pub fits-Ret : Ret → Bool
fits-Ret r = true

abbrev pub fits-DeqRet : DeqRet → Bool
fits-DeqRet r = true

abbrev pub fits-Fault : Fault → Bool
fits-Fault f = true

abbrev pub fits-Reply : Reply → Bool
fits-Reply Done = true
fits-Reply (Attached t) = fits-TaskNumber t
fits-Reply (Got a) = fits-Address a
fits-Reply (Dispatched t) = fits-TaskNumber t
fits-Reply (Counted n) = fits_u8 n
fits-Reply Four = true
fits-Reply (Refused why) = true
fits-Reply (Failed what) = true

abbrev pub fits-Verdict : Verdict → Bool
fits-Verdict v = true

abbrev pub fits-Request : Request → Bool
fits-Request (Attach c lpmod dpmod e) = (fits-TaskNumber c && fits_u16 lpmod) && (fits_i16 dpmod && fits-MaybeEcb e)
fits-Request (Detach c task) = fits-TaskNumber c && fits-TaskNumber task
fits-Request (End c code) = fits-TaskNumber c && fits_u16 code
fits-Request (Abend c code step) = fits-TaskNumber c && fits_u16 code
fits-Request (Enq c ret) = fits-TaskNumber c
fits-Request (Deq c ret) = fits-TaskNumber c
fits-Request (Wait c n) = fits-TaskNumber c && fits_u32 n
fits-Request (Post c e code) = fits-TaskNumber c && (fits-EcbNumber e && fits_u32 code)
fits-Request (Clear c e) = fits-TaskNumber c && fits-EcbNumber e
fits-Request (Getmain c bytes subpool conditional) = fits-TaskNumber c && (fits_u32 bytes && fits_u8 subpool)
fits-Request (Freemain c address bytes subpool) =
    (fits-TaskNumber c && fits-Address address) && (fits_u32 bytes && fits_u8 subpool)
fits-Request Dispatch = true

-- TABLES

abbrev pub fits-TaskTable : TaskTable → Bool
fits-TaskTable f = array highest_task fits-Task f.places

abbrev pub fits-Queue : Queue → Bool
fits-Queue q = array most_entries fits-Slot q.slots && fits_usize q.count

abbrev pub fits-Marks : Marks → Bool
fits-Marks m = array (highest_task + 1) fits_bool m.tasks

abbrev pub fits-Flags : Flags → Bool
fits-Flags f = array longest_list fits_bool f.of

abbrev pub fits-Codes : Codes → Bool
fits-Codes k = array longest_list fits_u8 k.bytes

abbrev pub fits-EcbTable : EcbTable → Bool
fits-EcbTable e = array all_ecbs fits-Ecb e.ecbs

abbrev pub fits-Storage : Storage → Bool
fits-Storage s = array most_areas fits-Area s.areas && fits_usize s.count

abbrev pub fits-AllTables : AllTables → Bool
fits-AllTables t =
    (fits_u16 t.code && fits-TaskTable t.tasks)
    && (fits-Queue t.queue && (fits-EcbTable t.ecbs && fits-Storage t.storage))

abbrev pub fits-Offsets : Offsets → Bool
fits-Offsets o = array most_entries fits_u16 o.of

abbrev pub fits-NameArea : NameArea → Bool
fits-NameArea a = array name_area fits_u8 a.bytes

abbrev pub fits-Tables : Tables → Bool
fits-Tables t = fits-AllTables t.all && fits-NameArea t.names

-- PARAMETERS, one after the other; none is left
infixr 60 ◌⊗◌
abbrev pub ◌⊗◌ : {A B : Type 0} → (A → Bool) → (B → Bool) → A × B → Bool
(p ⊗ q) x = p x.0 && q x.1

abbrev pub fits_end : Unit {0} → Bool
fits_end u = true
