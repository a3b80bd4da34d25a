use Rattle.node_threads.proofs.cluster.run_cluster_faulty.Given as goal

abbrev pub ghosts-run_counted-S-Ledger : goal.ghosts-run_counted-S-Ledger
ghosts-run_counted-S-Ledger g a = record { name = a.sessions.name; parts = a.sessions.parts }

abbrev pub ghosts-run_counted-C-Ledger : goal.ghosts-run_counted-C-Ledger
ghosts-run_counted-C-Ledger g a = record { name = a.commands.name; parts = a.commands.parts }
