use Rattle.event_loops.proofs.serving.serve_desk.Given as goal

-- the worlds that the desk shows
abbrev pub ghosts-serve_from : goal.ghosts-serve_from
ghosts-serve_from g a = record { began = g.D.LoopDesk.shows a.desk }
