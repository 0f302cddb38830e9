-- EVERY DEFINITION OPEN, under one name: a proof that says `unfolding rules-open` computes with all of document 01 and
-- of what has landed of document 02.
use Rattle.lists.specs.Pick.{pick}
use Rattle.kinds.specs.Ranges.{dpmod_good}
use Rattle.rules.specs.Names.{legal, is_system, lawful, names_good, asks_system}
use Rattle.rules.specs.Control.{granted, available, control}
use Rattle.rules.specs.Rings.{bars, waits_for, leads_by, stuck}
use Rattle.rules.specs.Steps.{over_step}
use Rattle.rules.specs.Family.{place, used, mother, chain, below, is_subtask_of}
use Rattle.rules.specs.ResourceWaits.{wait_at}
use Rattle.rules.specs.Events.{ecbs_good, word_of, one_post_fewer, unwaited, bits_left, woken, signalled}
use Rattle.rules.specs.Ending.{end_at, area_stays, waiter_stays, left_by, detached, ended, failing}
use Rattle.rules.specs.Admission.{admitted, gate_of, open_gate, through, settled}
use Rattle.rules.specs.Fresh.{begun_with, fresh_good, fresh_of}
use Rattle.rules.specs.Attach.{held_to, new_dispatching, attach_good, attach_verdict, new_task, attach_done}
use Rattle.rules.specs.Detach.{detach_good, detach_verdict, detach_done}
use Rattle.rules.specs.End.{end_good, end_verdict, end_done}
use Rattle.rules.specs.Abend.{abend_verdict, abend_done}
use Rattle.rules.specs.Codes.{coded, written_on, too_short}
use Rattle.rules.specs.Enq.{enq_code, to_queue, too_few_free, enq_good, enq_verdict, made_exclusive}
use Rattle.rules.specs.Enq.{enq_done, enq_written}
use Rattle.rules.specs.Deq.{deq_code, deq_verdict, deq_done, deq_written}
use Rattle.rules.specs.Wait.{wait_verdict, wait_set, wait_done}
use Rattle.rules.specs.Post.{post_good, post_verdict, post_done}
use Rattle.rules.specs.Clear.{clear_good, clear_verdict, clear_done}
use Rattle.rules.specs.Storage.{rounded, owner_in, area_at, one_holder, bytes_apart, pages_apart, apart, permitted}
use Rattle.rules.specs.Storage.{lowest_from, inserted_in, same_area}
use Rattle.rules.specs.Getmain.{getmain_good, getmain_verdict, getmain_done}
use Rattle.rules.specs.Freemain.{freemain_good, freemain_verdict, freemain_done}
use Rattle.rules.specs.Dispatch.{dispatched, dispatch_body}
use Rattle.rules.specs.SoundTasks.{tasks_fit, job_step_good, mother_good, mothers_good, priorities_good, task_ecbs_good}
use Rattle.rules.specs.SoundTasks.{ended_tasks_good, zero_task, free_places_good}
use Rattle.rules.specs.SoundQueue.{queue_fits, entries_live, entries_once, entry_names_good, wait_good, waits_good}
use Rattle.rules.specs.SoundEcbs.{ecbs_fit, waiters_good, needs_good, ecb_word_good, ecb_words_good, zero_ecb}
use Rattle.rules.specs.SoundAreas.{areas_fit, area_shape_good, area_shapes_good, area_owner_good, area_owners_good}
use Rattle.rules.specs.SoundAreas.{areas_rise, areas_apart}
use Rattle.rules.specs.Sound.{sizes_good, sound_tasks, sound_queue, sound_ecbs, sound_areas, over_good, running_good}
use Rattle.rules.specs.Sound.{sound_step}
use Rattle.rules.specs.Form.{ranges_good, form_holds}
use Rattle.rules.specs.Serve.{service_of, serve_of}
use Rattle.rules.specs.Reports.{stuck_tasks, queues_of, stuck_list, queues_list, report_gate}
use Rattle.rules.specs.Reading.{climbs, ends_with}

unfoldable pub rules_open : Unit {0}
unfolding pick dpmod_good legal is_system lawful names_good asks_system granted available control bars waits_for
    leads_by stuck over_step place used mother chain below is_subtask_of wait_at ecbs_good word_of one_post_fewer unwaited
    bits_left woken signalled
    end_at area_stays waiter_stays left_by detached ended failing admitted gate_of open_gate through settled begun_with
    fresh_good fresh_of held_to new_dispatching attach_good attach_verdict new_task attach_done detach_good detach_verdict
    detach_done end_good end_verdict end_done abend_verdict abend_done coded written_on too_short enq_code to_queue too_few_free
    enq_good enq_verdict made_exclusive enq_done enq_written deq_code deq_verdict deq_done deq_written wait_verdict wait_set
    wait_done post_good post_verdict post_done clear_good clear_verdict clear_done rounded owner_in area_at one_holder bytes_apart
    pages_apart apart permitted lowest_from inserted_in same_area getmain_good getmain_verdict getmain_done freemain_good
    freemain_verdict freemain_done dispatched dispatch_body tasks_fit job_step_good mother_good mothers_good priorities_good
    task_ecbs_good ended_tasks_good zero_task free_places_good queue_fits entries_live entries_once entry_names_good wait_good
    waits_good ecbs_fit waiters_good needs_good ecb_word_good ecb_words_good zero_ecb areas_fit area_shape_good area_shapes_good
    area_owner_good area_owners_good areas_rise areas_apart sizes_good sound_tasks sound_queue sound_ecbs sound_areas over_good
    running_good sound_step ranges_good form_holds service_of serve_of stuck_tasks queues_of stuck_list queues_list report_gate
    climbs ends_with
rules_open = tt
